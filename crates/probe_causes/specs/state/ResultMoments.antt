-- The moments that are kept of an instance's results.
use Rattle.std.specs.Prelude.{◌≡◌, ◌↔◌, ℕ, List, [], ◌∷◌, ◌++◌, length, Option, Some, None, IsSomeAnd}
use Rattle.std.specs.List.{cons_option}
use Rattle.manifest.specs.declared.outcome.Outcome.{Outcome}
use Rattle.manifest.specs.rule.Probe.{Probe, Probes}
use Rattle.probes.specs.rule.Ticks.{Results, Tick}
use Rattle.probes.specs.rule.Container.{IsPassTick}
use Rattle.probe_causes.specs.rule.Moments.{startup_in, liveness_in, readiness_in, told_at, moments_of}
use Rattle.probe_causes.specs.rule.Causes.{IsPassMoment}
use Rattle.probe_causes.specs.declared.result_moments.ResultMoments.{ResultMoments}

-- the moments of a probe's results that belong; without a probe there are none
abbrev pub moments_with : (Results → Option Outcome) → Option Probe → ℕ → List Tick → List ℕ
moments_with which None start ticks = []
moments_with which (Some probe) start ticks = moments_of which probe start ticks

-- what one result adds to them
abbrev pub told_with : Option Probe → ℕ → ℕ → Option Outcome → List ℕ
told_with None start moment result = []
told_with (Some probe) start moment result = cons_option (told_at probe start moment result) []

-- the startup probe, if there is one, passes with one more tick exactly if so
abbrev pub PassesNow : Option Probe → ℕ → List Tick → Tick → Type 0 → Type 0
PassesNow startup start ticks next so =
    so ↔ IsSomeAnd startup (λ p. IsPassTick p start (ticks ++ next ∷ []) (length ticks))

-- what is kept after these ticks of the instance with this start
pub record AreMomentsOf (probes : Probes) (start : ℕ) (ticks : List Tick) (kept : ResultMoments) : Type 0 where
  pub follows : kept.probes ≡ probes
  pub begins : kept.start ≡ start
  pub passes : IsPassMoment probes.startup start ticks kept.passed
  pub startup : kept.startup.items ≡ moments_with startup_in probes.startup start ticks
  pub liveness : kept.liveness.items ≡ moments_with liveness_in probes.liveness start ticks
  pub readiness : kept.readiness.items ≡ moments_with readiness_in probes.readiness start ticks
