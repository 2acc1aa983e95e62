-- Whether an instance is ready, and whether its kill is ordered, by the results of its probes.
-- (Kubernetes, "Pod Lifecycle", "Types of probe": the other probes are disabled until the startup
-- probe succeeds; a container whose startup or liveness probe fails is killed; one whose readiness
-- probe fails is not ready.)
use Rattle.std.specs.Prelude.{◌≡◌, ◌⊎◌, ℕ, suc, List, [], drop, Option, Some, None}
use Rattle.manifest.specs.rule.Probe.{Probe, Probes}
use Rattle.probes.specs.declared.probe_set.Cause.{Cause}
use Rattle.probes.specs.declared.probe_set.Cause.TheVariants.{Startup, Liveness}
use Rattle.histories.specs.rule.Histories.{ComesTrue}
use Rattle.probes.specs.rule.Ticks.{Tick, HasPassed, IsStarted, HasStartupFailed, HasLivenessFailed, HoldsReady}

-- the tick at which the startup probe passes: the first after which it has passed
abbrev pub IsPassTick : Probe → ℕ → List Tick → ℕ → Type 0
IsPassTick probe start ticks t = ComesTrue (HasPassed probe start) ticks t

-- the ticks whose liveness and readiness results count: without a startup probe all; with one those
-- after the tick at which it passes, and none while it has not passed
abbrev pub AreCounted : Option Probe → ℕ → List Tick → List Tick → Type 0
AreCounted None start ticks counted = counted ≡ ticks
AreCounted (Some probe) start ticks counted =
    ((t : ℕ) × IsPassTick probe start ticks t × (counted ≡ drop (suc t) ticks))
    ⊎ ((HasPassed probe start ticks → ⊥) × (counted ≡ []))

-- the kill is ordered for this cause: the startup probe has failed, or the liveness probe has over
-- the ticks that count
abbrev pub IsKillOrdered : Probes → ℕ → Cause → List Tick → Type 0
IsKillOrdered probes start Startup ticks = HasStartupFailed probes.startup start ticks
IsKillOrdered probes start Liveness ticks =
    (counted : List Tick) × AreCounted probes.startup start ticks counted
    × HasLivenessFailed probes.liveness start counted

-- the instance is ready: startup has passed, and the readiness probe holds over the ticks that
-- count
abbrev pub IsInstanceReady : Probes → ℕ → List Tick → Type 0
IsInstanceReady probes start ticks =
    IsStarted probes.startup start ticks
    × ((counted : List Tick) × AreCounted probes.startup start ticks counted
    × HoldsReady probes.readiness start counted)
