-- The state of a readiness probe after some ticks.
use Rattle.std.specs.Prelude.{◌≡◌, ◌↔◌, ℕ, Bool, true, IsTrue, List, Option, Some, None}
use Rattle.manifest.specs.declared.outcome.Outcome.TheVariants.{Success, Failure}
use Rattle.manifest.specs.declared.outcome.Outcome.{Outcome}
use Rattle.manifest.specs.rule.Probe.{Probe}
use Rattle.probes.specs.declared.readiness.Readiness.{Readiness}
use Rattle.probes.specs.rule.Outcomes.{HoldsAfter}
use Rattle.probes.specs.state.Outcomes.{IsRunLength}
use Rattle.probes.specs.rule.Ticks.{Tick, readiness_results}

-- the runs at the end of these results, and whether they make the container ready
pub record CountsResults (probe : Probe) (results : List Outcome) (successes failures : ℕ) (ready : Bool) : Type 0 where
  pub succeeds : IsRunLength Success probe.success_threshold results successes
  pub fails : IsRunLength Failure probe.failure_threshold results failures
  pub holds : IsTrue ready ↔ HoldsAfter probe.success_threshold probe.failure_threshold results

-- the state of a readiness probe after these ticks, and ready where there is no probe
abbrev pub CountsReadiness : Option Probe → ℕ → List Tick → ℕ → ℕ → Bool → Type 0
CountsReadiness None start ticks successes failures ready = ready ≡ true
CountsReadiness (Some probe) start ticks successes failures ready =
    CountsResults probe (readiness_results probe start ticks) successes failures ready

-- the state after these ticks, which all count, of an instance with this start
abbrev pub IsReadinessOf : ℕ → List Tick → Readiness → Type 0
IsReadinessOf start ticks readiness =
    CountsReadiness readiness.probe start ticks readiness.successes readiness.failures readiness.ready
