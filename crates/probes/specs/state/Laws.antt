-- Laws of the rules on probes, over the definitions alone: for every container and every list of
-- ticks.
use Rattle.std.specs.Prelude.{◌≡◌, ◌↔◌, ℕ, List, ◌++◌, Option, None}
use Rattle.manifest.specs.rule.Probe.{Probe, Probes}
use Rattle.probes.specs.declared.probe_set.Cause.{Cause}
use Rattle.probes.specs.declared.probe_set.Cause.TheVariants.{Startup, Liveness}
use Rattle.probes.specs.rule.Ticks.{Tick, IsStarted}
use Rattle.probes.specs.rule.Container.{AreCounted, IsPassTick, IsKillOrdered, IsInstanceReady}
use Rattle.probes.specs.state.Container.{AreInRange}

-- no instance is to be killed for two causes
abbrev pub OneCause : Type 0
OneCause =
    (probes : Probes) (start : ℕ) (ticks : List Tick) → AreInRange probes
    → IsKillOrdered probes start Startup ticks → IsKillOrdered probes start Liveness ticks → ⊥

-- a kill order remains, whatever results come later
abbrev pub KillOrderStands : Type 0
KillOrderStands =
    (probes : Probes) (start : ℕ) (cause : Cause) (ticks later : List Tick) → AreInRange probes
    → IsKillOrdered probes start cause ticks → IsKillOrdered probes start cause (ticks ++ later)

-- startup passes in at most one tick, whatever results come later
abbrev pub StartupPassesOnce : Type 0
StartupPassesOnce =
    (probe : Probe) (start : ℕ) (ticks later : List Tick) (t u : ℕ)
    → IsPassTick probe start ticks t → IsPassTick probe start (ticks ++ later) u → t ≡ u

-- there is a list of the ticks that count
abbrev pub SomeCounted : Type 0
SomeCounted = (startup : Option Probe) (start : ℕ) (ticks : List Tick) → (counted : List Tick)
    × AreCounted startup start ticks counted

-- there is at most one list of the ticks that count
abbrev pub OneCounted : Type 0
OneCounted =
    (startup : Option Probe) (start : ℕ) (ticks counted others : List Tick)
    → AreCounted startup start ticks counted → AreCounted startup start ticks others → counted ≡ others

-- without a readiness probe an instance is ready exactly if it is started
abbrev pub ReadyWithoutProbe : Type 0
ReadyWithoutProbe =
    (probes : Probes) (start : ℕ) (ticks : List Tick) → probes.readiness ≡ None
    → (IsInstanceReady probes start ticks ↔ IsStarted probes.startup start ticks)
