-- The state of a liveness probe after some ticks.
use Rattle.std.specs.Prelude.{◌≡◌, ◌↔◌, ℕ, Bool, false, IsTrue, List, Option, Some, None}
use Rattle.manifest.specs.declared.outcome.Outcome.TheVariants.{Failure}
use Rattle.manifest.specs.rule.Probe.{Probe}
use Rattle.probes.specs.declared.liveness.Liveness.{Liveness}
use Rattle.probes.specs.rule.Outcomes.{FailsInARow}
use Rattle.probes.specs.state.Outcomes.{IsRunLength}
use Rattle.probes.specs.rule.Ticks.{Tick, liveness_results}

-- how many failures there are in a row at the end, and whether there ever were as many as the failure threshold
abbrev pub CountsLiveness : Option Probe → ℕ → List Tick → ℕ → Bool → Type 0
CountsLiveness None start ticks failures failed = failed ≡ false
CountsLiveness (Some probe) start ticks failures failed =
    let results = liveness_results probe start ticks in
    IsRunLength Failure probe.failure_threshold results failures
    × (IsTrue failed ↔ FailsInARow probe.failure_threshold results)

-- the state after these ticks, which all count, of an instance with this start
abbrev pub IsLivenessOf : ℕ → List Tick → Liveness → Type 0
IsLivenessOf start ticks liveness = CountsLiveness liveness.probe start ticks liveness.failures liveness.failed
