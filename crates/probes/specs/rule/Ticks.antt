-- The results of the probes of one instance of a container, tick after tick, oldest first. A tick
-- is named by its place, counted from 0. (Kubernetes, "Configure Liveness, Readiness and Startup
-- Probes".)
use Rattle.std.specs.Prelude.{ℕ, ◌-◌, ◌&&◌, nat_le, if◌then◌else◌, List}
use Rattle.std.specs.Prelude.{slice_index_or, Option, Some, None, IsSomeAnd, MatchOption}
use Rattle.std.specs.List.{filter_map}
use Rattle.manifest.specs.declared.outcome.Outcome.{Outcome}
use Rattle.manifest.specs.rule.Probe.{Probe}
use Rattle.histories.specs.rule.Histories.{Recorded, recorded}
use Rattle.probes.specs.rule.Outcomes.{is_known, PassesWithin, FailsWithin, FailsInARow, HoldsAfter}

-- the result of each probe in one tick, if there is one
pub record Results : Type 0 where
  pub startup : Option Outcome
  pub liveness : Option Outcome
  pub readiness : Option Outcome

-- one tick: its moment, and the results
abbrev pub Tick : Type 0
Tick = Recorded Results

-- the tick of a moment and three results, in the order startup, liveness, readiness
abbrev pub tick : ℕ → List (Option Outcome) → Tick
tick at results = recorded at (record {
  startup = slice_index_or results 0 None;
  liveness = slice_index_or results 1 None;
  readiness = slice_index_or results 2 None;
})

-- the result of a probe in a tick, if it belongs to an instance of this age in seconds: it is known, and the
-- initial delay is over
abbrev pub belonging : Probe → ℕ → Option Outcome → Option Outcome
belonging probe age None = None
belonging probe age (Some outcome) =
    (if is_known outcome && nat_le probe.initial_delay_seconds age then Some outcome else None)

-- the results of the startup probe that belong to the instance with this start, in order
abbrev pub startup_results : Probe → ℕ → List Tick → List Outcome
startup_results probe start ticks = filter_map (λ t. belonging probe (t.moment - start) t.entry.startup) ticks

-- the results of the liveness probe that belong to the instance with this start, in order
abbrev pub liveness_results : Probe → ℕ → List Tick → List Outcome
liveness_results probe start ticks = filter_map (λ t. belonging probe (t.moment - start) t.entry.liveness) ticks

-- the results of the readiness probe that belong to the instance with this start, in order
abbrev pub readiness_results : Probe → ℕ → List Tick → List Outcome
readiness_results probe start ticks = filter_map (λ t. belonging probe (t.moment - start) t.entry.readiness) ticks

-- the startup probe has passed: one of its first results, as many as its failure threshold, is a success
abbrev pub HasPassed : Probe → ℕ → List Tick → Type 0
HasPassed probe start ticks = PassesWithin probe.failure_threshold (startup_results probe start ticks)

-- startup has passed: with a startup probe once that has passed, without one from the start on
abbrev pub IsStarted : Option Probe → ℕ → List Tick → Type 0
IsStarted startup start ticks = MatchOption startup (Unit {0}) (λ probe. HasPassed probe start ticks)

-- startup has failed: its first results, as many as its failure threshold, are all failures
abbrev pub HasStartupFailed : Option Probe → ℕ → List Tick → Type 0
HasStartupFailed startup start ticks =
    IsSomeAnd startup (λ probe. FailsWithin probe.failure_threshold (startup_results probe start ticks))

-- liveness has failed over these ticks: as many failures as its failure threshold came in a row
abbrev pub HasLivenessFailed : Option Probe → ℕ → List Tick → Type 0
HasLivenessFailed liveness start ticks =
    IsSomeAnd liveness (λ probe. FailsInARow probe.failure_threshold (liveness_results probe start ticks))

-- readiness holds over these ticks: as many successes as its success threshold came in a row, and later never as many
-- failures as its failure threshold; without a readiness probe it always holds
abbrev pub HoldsReady : Option Probe → ℕ → List Tick → Type 0
HoldsReady readiness start ticks =
    MatchOption readiness (Unit {0}) (λ probe. HoldsAfter probe.success_threshold probe.failure_threshold
    (readiness_results probe start ticks))
