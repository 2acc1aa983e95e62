use Rattle.std.proofs.Common.{◌∷◌, [], ◌++◌, Some, refl, subst}
use Rattle.std.specs.Prelude.{◌↔◌, IsTrue, ℕ}
use Rattle.histories.specs.rule.Histories.{recorded}
use Rattle.state_diff.specs.state.Differ.{IsStateOf as IsDifferOf}
use Rattle.containers.specs.rule.Ticks.{ContainerTick, listings, BelongsTo}
use Rattle.containers.specs.state.Container.{IsStateOf}
use Rattle.containers.proofs.FollowLemmas.{takes_is}
use Rattle.container_causes.specs.state.Watched.{IsBegun}
use Rattle.container_causes.proofs.KeptLemmas.{kept_more}
use Rattle.container_causes.proofs.ListingLemmas.{front_kept}
use Rattle.container_causes.proofs.RunsOnLemmas.{runs_on_more}
use Rattle.container_causes.proofs.watched_container.WatchedContainer.step.Goals as goal

pub returns-clause-state : goal.returns-clause-state
returns-clause-state c = λ spec max_restart_delay h own is.
    let x : ContainerTick = recorded c.args.at c.args.observed in
    let now : IsStateOf spec max_restart_delay (h ++ x ∷ []) c.step-events.new.self =
    c.step-events.ensures.state spec max_restart_delay h is.container in
    let events = c.step-events.ensures.events spec max_restart_delay h own is.container in
    let differ : IsDifferOf (listings (h ++ x ∷ [])) c.differ-differ.result =
    c.differ-differ.ensures spec max_restart_delay (h ++ x ∷ []) now in
    let takes : IsTrue c.takes_results-takes.result ↔ ((a : ℕ) × BelongsTo a (h ++ x ∷ [])) =
    takes_is h x c.differ-differ.result c.newest.result c.takes_results-takes.result differ (c.newest.ensures _ differ)
    c.takes_results-takes.ensures in
    record {
      container = now;
      follows = is.follows;
      results = kept_more spec h x c.args.self.now.container.differ c.differ-differ.result _ _ _ _ _
          c.takes_results-takes.result is.container.differ c.requires.accepted differ events.started events.passed
          (subst (λ p. IsBegun p c.step-events.result.started c.args.at c.args.self.now.instance c.begin.new.kept)
          is.follows c.begin.ensures) c.in_ok-take_results.ensures takes is.results;
      count = c.count_exits-self.ensures h x c.args.self.now.container.differ c.differ-differ.result refl
          is.container.differ c.requires.accepted differ (c.first_running-start.ensures (listings h)
          (c.differ.ensures spec max_restart_delay h is.container)) (c.run.ensures (listings (h ++ x ∷ [])) differ)
          events.gone events.died is.count;
      runs_on = runs_on_more h x c.args.self.now.container.differ is.container.differ c.requires.accepted is.runs_on;
      last = (Some x, (h, refl), refl);
      before = λ front y e. front_kept h front x y _ e is.last;
    }

pub returns-clause-events : goal.returns-clause-events
returns-clause-events c = λ spec max_restart_delay h own is.
    c.step-events.ensures.events spec max_restart_delay h own is.container
