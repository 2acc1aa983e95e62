use Rattle.std.proofs.Common.{ℕ, List, ◌∷◌, [], ◌++◌, ◌∙◌, subst, sym}
use Rattle.histories.specs.rule.Histories.{recorded}
use Rattle.manifest.specs.declared.pod.ContainerSpec.{ContainerSpec}
use Rattle.restarts.specs.declared.backoff.Backoff.{Backoff}
use Rattle.restarts.specs.state.Backoff.{IsStateOf as IsBackoffOf}
use Rattle.containers.specs.rule.Ticks.{ContainerTick}
use Rattle.containers.specs.state.Container.{IsStateOf}
use Rattle.containers.specs.state.Step.{AreCounted}
use Rattle.containers.proofs.ProbedLemmas.{following}
use Rattle.containers.proofs.EventLemmas.{gone_gives, died_gives, readiness_gives, backoff_gives, restart_gives}
use Rattle.containers.proofs.StepLemmas.{last_listed, following_same, state_more, started_gives, passed_gives}
use Rattle.containers.proofs.StepLemmas.{kill_gives}
use Rattle.containers.proofs.container.Container.step.Goals as goal

-- the exits that were counted
counted : (c : goal.After-restart) (spec : ContainerSpec) (max_restart_delay : ℕ) (h : List ContainerTick)
    → IsStateOf spec max_restart_delay h c.args.self.now
    → AreCounted max_restart_delay h (recorded c.args.at c.args.observed) c.count_exits-delay.new.self.backoff
    c.count_exits-delay.result
counted c spec max_restart_delay h st =
    let is = following spec max_restart_delay h c.args.self.now st in
    let after = c.follow-followed.ensures.followed spec h is in
    c.count_exits-delay.ensures.counted max_restart_delay h c.args.observed st.exits c.args.self.now.differ st.differ
    (c.first_running-start.ensures _ st.differ) after.differ c.requires.accepted
    (c.follow-followed.ensures.changes spec h is) st.are_exits
    (subst (λ (b : Backoff). IsBackoffOf max_restart_delay st.exits b)
    (sym c.follow-followed.ensures.backoff) st.backoff)

pub returns-clause-state : goal.returns-clause-state
returns-clause-state c = λ spec max_restart_delay h st.
    let x = recorded c.args.at c.args.observed in
    let after = c.follow-followed.ensures.followed spec h (following spec max_restart_delay h c.args.self.now st) in
    let e = c.count_exits-delay.ensures in
    let now = following_same spec (h ++ x ∷ []) c.follow-followed.new.self c.count_exits-delay.new.self e.role
    e.differ e.probes after in
    state_more spec max_restart_delay h x c.args.self.now c.count_exits-delay.new.self c.is_started.result
    c.count_exits-delay.result st c.requires.later now
    (e.was_started ∙ c.follow-followed.ensures.was_started) (counted c spec max_restart_delay h st)
    (c.is_started.ensures spec (h ++ x ∷ []) now)

pub returns-clause-events : goal.returns-clause-events
returns-clause-events c = λ spec max_restart_delay h own st.
    let x = recorded c.args.at c.args.observed in
    let is = following spec max_restart_delay h c.args.self.now st in
    let changes = c.follow-followed.ensures.changes spec h is in
    let verdicts = c.follow-followed.ensures.verdicts spec h is in
    let after = returns-clause-state c spec max_restart_delay h st in
    let now = following spec max_restart_delay (h ++ x ∷ []) _ after in
    let exits = counted c spec max_restart_delay h st in
    let d = c.args.self.now.differ in
    record {
      gone = gone_gives h x d c.follow-followed.result.changes c.gone.result st.differ changes c.gone.ensures;
      started = started_gives h x c.follow-followed.result.changes c.started.result changes c.started.ensures;
      died = died_gives h x c.follow-followed.result.changes c.died.result changes c.died.ensures;
      passed = passed_gives spec h x d c.follow-followed.result.verdicts c.passed.result st.differ c.requires.accepted
          verdicts c.passed.ensures;
      kill = kill_gives spec h x d c.follow-followed.result.verdicts c.kill.result st.differ c.requires.accepted
          verdicts c.kill.ensures;
      readiness = readiness_gives spec h x c.is_ready-was_ready.result c.is_ready.result c.readiness.result
          (c.is_ready-was_ready.ensures spec max_restart_delay h st)
          (c.is_ready.ensures spec max_restart_delay (h ++ x ∷ []) after)
          c.readiness.ensures;
      backoff = backoff_gives c.args.policy max_restart_delay spec h x _ c.count_exits-delay.result c.backs_off.result
          c.backoff.result after.rising exits (c.backs_off.ensures spec (h ++ x ∷ []) own now) c.backoff.ensures;
      restart = restart_gives c.args.policy max_restart_delay spec h x _ c.count_exits-delay.result c.to_restart.result
          c.last_at-last_at.result c.is_due-is_due.result c.restart.result st.rising exits
          (c.last_at-last_at.ensures.moment _ st.differ ∙ last_listed h)
          (c.to_restart.ensures spec (h ++ x ∷ []) own now)
          (c.is_due-is_due.ensures max_restart_delay exits.exits exits.counted) c.restart.ensures;
    }
