use Rattle.std.proofs.Common.{sym, ◌∙◌}
use Rattle.manifest.specs.declared.outcome.Outcome.TheVariants.{Success, Failure}
use Rattle.probes.proofs.Taken as taken
use Rattle.probes.proofs.readiness.Readiness.take.Goals as goal

pub returns-in_default-clause-state : goal.returns-in_default-clause-state
returns-in_default-clause-state c = λ start ticks next at is st.
    taken.readiness_skips _ start ticks next _ _ _ _ _ at is (sym c.result.ensures ∙ c.in_default.is) st

pub returns-clause-state : goal.returns-clause-state
returns-clause-state c = λ start ticks next at is st.
    let one = taken.one_belongs c.args.self.now.probe c.args.age c.args.outcome c.in-Some.found
    (sym c.result.ensures ∙ c.in-Some.is) in
    rw one.0 (taken.readiness_takes c.in-Some.found.probe start ticks next c.in-Some.found.outcome _ _ _ _ _ _ _ _ _ _
    (rw (at, is) one.1) c.success_threshold.ensures.value c.success_threshold-2.ensures.value
    c.failure_threshold.ensures.value c.failure_threshold-2.ensures.value
    (λ results run. c.extend_run-self.ensures Success c.in-Some.found.outcome results c.is_success.ensures run)
    (λ results run. c.extend_run-self-2.ensures Failure c.in-Some.found.outcome results c.is_failure.ensures run)
    c.stays_ready-self.ensures (rw one.0 at st))
