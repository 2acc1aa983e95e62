-- The state of a startup probe after some ticks.
use Rattle.std.specs.Prelude.{◌≡◌, ℕ, ◌<◌, List, length, slice_get, Option, Some, None}
use Rattle.manifest.specs.declared.outcome.Outcome.{Outcome}
use Rattle.manifest.specs.declared.outcome.Outcome.TheVariants.{Failure}
use Rattle.manifest.specs.rule.Probe.{Probe}
use Rattle.probes.specs.declared.startup.Startup.{Startup}
use Rattle.probes.specs.declared.startup.StartupProgress.{StartupProgress}
use Rattle.probes.specs.declared.startup.StartupProgress.TheVariants.{Waiting, Passed, Failed}
use Rattle.probes.specs.rule.Outcomes.{PassesWithin, FailsWithin}
use Rattle.probes.specs.rule.Ticks.{Tick, startup_results}

-- so far all results are failures, and fewer than the limit
pub record IsWaiting (limit : ℕ) (results : List Outcome) (failures : ℕ) : Type 0 where
  pub count : failures ≡ length results
  pub few : failures < limit
  pub all : (k : ℕ) → k < failures → slice_get results k ≡ Some Failure

-- the progress after these results
abbrev pub IsProgressOf : ℕ → List Outcome → StartupProgress → Type 0
IsProgressOf limit results (Waiting failures) = IsWaiting limit results failures
IsProgressOf limit results Passed = PassesWithin limit results
IsProgressOf limit results Failed = FailsWithin limit results

-- the progress with this probe; without one it has passed
abbrev pub IsProgressWith : Option Probe → ℕ → List Tick → StartupProgress → Type 0
IsProgressWith None start ticks progress = progress ≡ Passed
IsProgressWith (Some probe) start ticks progress =
    IsProgressOf probe.failure_threshold (startup_results probe start ticks) progress

-- the state after these ticks of an instance with this start
abbrev pub IsStartupOf : ℕ → List Tick → Startup → Type 0
IsStartupOf start ticks startup = IsProgressWith startup.probe start ticks startup.progress
