use Rattle.std.proofs.Common.{sym, ◌∙◌}
use Rattle.manifest.specs.declared.outcome.Outcome.TheVariants.{Failure}
use Rattle.probes.proofs.Taken as taken
use Rattle.probes.proofs.liveness.Liveness.take.Goals as goal

pub returns-in_default-clause-state : goal.returns-in_default-clause-state
returns-in_default-clause-state c = λ start ticks next at is st.
    taken.liveness_skips _ start ticks next _ _ _ _ at is (sym c.result.ensures ∙ c.in_default.is) st

pub returns-clause-state : goal.returns-clause-state
returns-clause-state c = λ start ticks next at is st.
    let one = taken.one_belongs c.args.self.now.probe c.args.age c.args.outcome c.in-Some.found
    (sym c.result.ensures ∙ c.in-Some.is) in
    rw one.0 (taken.liveness_takes c.in-Some.found.probe start ticks next c.in-Some.found.outcome _ _ _ _
    (rw (at, is) one.1)
    c.failure_threshold-limit.ensures.value
    (λ results run. c.extend_run-self.ensures Failure c.in-Some.found.outcome results c.is_failure.ensures run)
    (rw one.0 at st))
