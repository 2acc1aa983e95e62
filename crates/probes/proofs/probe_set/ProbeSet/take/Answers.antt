use Rattle.std.proofs.Common.{refl, ◌++◌, ◌∷◌, []}
use Rattle.probes.specs.rule.Ticks.{tick}
use Rattle.probes.specs.state.ProbeSet.{IsStateOf}
use Rattle.probes.proofs.States as states
use Rattle.probes.proofs.probe_set.ProbeSet.take.Goals as goal

pub returns-clause-state : goal.returns-clause-state
returns-clause-state c = λ probes start ticks st. c.follow.ensures.state probes start ticks
    (tick c.args.at c.args.results) refl refl refl refl st

pub returns-clause-verdicts : goal.returns-clause-verdicts
returns-clause-verdicts c = λ probes start ticks st.
    let after : IsStateOf probes start (ticks ++ tick c.args.at c.args.results ∷ []) c.follow.new.self =
    c.follow.ensures.state probes start ticks (tick c.args.at c.args.results) refl refl refl refl st in
    record {
      passed = states.pass_comes probes.startup start ticks _ _ _ _ c.became_true.ensures
          (c.started-started.ensures.state probes start ticks st) (c.started.ensures.state probes start _ after);
      kill = states.kill_comes probes start ticks _ _ _ _ st.follows.in_range c.first_order.ensures
          (c.kill_ordered-ordered.ensures.state probes start ticks st) (c.cause.ensures.state probes start _ after);
      ready = c.ready.ensures.state probes start _ after;
    }
