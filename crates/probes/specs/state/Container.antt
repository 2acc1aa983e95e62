-- What a probe orders, and when first.
use Rattle.std.specs.Prelude.{ℕ, List}
use Rattle.manifest.specs.rule.Probe.{Probes}
use Rattle.manifest.specs.state.Probe.{HasNumbersInRange}
use Rattle.probes.specs.declared.probe_set.Cause.{Cause}
use Rattle.histories.specs.rule.Histories.{ComesTrue}
use Rattle.probes.specs.rule.Ticks.{Tick}
use Rattle.probes.specs.rule.Container.{IsKillOrdered}

-- the numbers of each probe are in the ranges of the manifest
pub record AreInRange (probes : Probes) : Type 0 where
  pub startup : HasNumbersInRange probes.startup
  pub liveness : HasNumbersInRange probes.liveness
  pub readiness : HasNumbersInRange probes.readiness

-- the kill is ordered, for some cause
abbrev pub IsSomeKillOrdered : Probes → ℕ → List Tick → Type 0
IsSomeKillOrdered probes start ticks = (cause : Cause) × IsKillOrdered probes start cause ticks

-- the tick that orders the kill for this cause: the first after which it is ordered
abbrev pub IsKillTick : Probes → ℕ → Cause → List Tick → ℕ → Type 0
IsKillTick probes start cause ticks t = ComesTrue (IsKillOrdered probes start cause) ticks t
