-- What an instance lacks to be ready (Kubernetes, "Pod Lifecycle", "Container probes").
use Rattle.std.specs.Prelude.{◌↔◌, ◌⊎◌, ℕ, List, IsTrue, IsSome}
use Rattle.manifest.specs.declared.pod.ContainerSpec.{ContainerSpec}
use Rattle.state_diff.specs.rule.Instances.{IsStart, IsExit}
use Rattle.probes.specs.rule.Ticks.{IsStarted as IsStartedBy}
use Rattle.probes.specs.rule.Container.{IsInstanceReady}
use Rattle.containers.specs.rule.Ticks.{ContainerTick, listings, SaysOf}
use Rattle.container_causes.specs.declared.lacking.Lacking.{Lacking}

abbrev pub HasStart : List ContainerTick → ℕ → Type 0
HasStart h a = (t : ℕ) × IsStart (listings h) a t

abbrev pub HasExit : List ContainerTick → ℕ → Type 0
HasExit h a = (t : ℕ) × IsExit (listings h) a t

-- what the instance lacks: one that has exited its start alone; any other its start, what its startup probe has to do,
-- and what its readiness probe has to do, as long as they are to come
pub record IsLacking (spec : ContainerSpec) (h : List ContainerTick) (a : ℕ) (lacks : Lacking) : Type 0 where
  pub start : IsTrue lacks.start ↔ (HasExit h a ⊎ (HasStart h a → ⊥))
  pub startup : IsTrue lacks.startup
      ↔ ((HasExit h a → ⊥) × IsSome spec.probes.startup × (SaysOf (IsStartedBy spec.probes.startup) h a → ⊥))
  pub readiness : IsTrue lacks.readiness
      ↔ ((HasExit h a → ⊥) × IsSome spec.probes.readiness × (SaysOf (IsInstanceReady spec.probes) h a → ⊥))
