-- The state of a container's probes after the ticks of an instance, and the verdicts of a tick.
use Rattle.std.specs.Prelude.{◌≡◌, ◌↔◌, ℕ, List, Some, None, IsTrue, IsSome, IsSomeAnd}
use Rattle.manifest.specs.rule.Probe.{Probes}
use Rattle.probes.specs.declared.probe_set.Cause.{Cause}
use Rattle.probes.specs.declared.probe_set.Verdicts.{Verdicts}
use Rattle.probes.specs.declared.probe_set.ProbeSet.{ProbeSet}
use Rattle.probes.specs.rule.Ticks.{Tick}
use Rattle.probes.specs.state.Startup.{IsStartupOf}
use Rattle.probes.specs.state.Liveness.{IsLivenessOf}
use Rattle.probes.specs.state.Readiness.{IsReadinessOf}
use Rattle.probes.specs.rule.Container.{AreCounted, IsPassTick, IsInstanceReady}
use Rattle.probes.specs.state.Container.{AreInRange, IsKillTick}

-- the set follows the probes of this container
pub record Follows (set : ProbeSet) (probes : Probes) : Type 0 where
  pub startup : set.startup.probe ≡ probes.startup
  pub liveness : set.liveness.probe ≡ probes.liveness
  pub readiness : set.readiness.probe ≡ probes.readiness
  pub in_range : AreInRange probes

-- an instance has begun
abbrev pub HasBegun : ProbeSet → Type 0
HasBegun set = IsSome set.start

-- no instance has begun yet
abbrev pub HasNotBegun : ProbeSet → Type 0
HasNotBegun set = set.start ≡ None

-- the counters of liveness and readiness after the ticks that count
pub record IsCountOf (start : ℕ) (counted : List Tick) (set : ProbeSet) : Type 0 where
  pub liveness : IsLivenessOf start counted set.liveness
  pub readiness : IsReadinessOf start counted set.readiness

-- the set's state after these ticks of the instance with this start
pub record IsStateOf (probes : Probes) (start : ℕ) (ticks : List Tick) (set : ProbeSet) : Type 0 where
  pub follows : Follows set probes
  pub begun : HasBegun set
  pub begins : set.start ≡ Some start
  pub startup : IsStartupOf start ticks set.startup
  pub counts : (counted : List Tick) × AreCounted probes.startup start ticks counted × IsCountOf start counted set

-- what happens at tick t
pub record AreVerdicts (probes : Probes) (start : ℕ) (ticks : List Tick) (t : ℕ) (verdicts : Verdicts) : Type 0 where
  -- the startup probe passes at it
  pub passed : IsTrue verdicts.passed ↔ IsSomeAnd probes.startup (λ probe. IsPassTick probe start ticks t)
  -- the kill order comes at it, for this cause
  pub kill : (cause : Cause) → ((verdicts.kill ≡ Some cause) ↔ IsKillTick probes start cause ticks t)
  -- the instance is ready after these ticks
  pub ready : IsTrue verdicts.ready ↔ IsInstanceReady probes start ticks
