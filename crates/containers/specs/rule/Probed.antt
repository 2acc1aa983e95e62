-- What the probes make of a container and of its instances. (Kubernetes, "Pod Lifecycle",
-- "Container probes"; "Sidecar Containers"; that an init container is never started or ready is
-- this profile's rule.)
use Rattle.std.specs.Prelude.{◌≢◌, ℕ, List}
use Rattle.histories.specs.rule.Histories.{HoldsAt}
use Rattle.manifest.specs.declared.pod.ContainerSpec.{ContainerSpec}
use Rattle.manifest.specs.declared.pod.Role.TheVariants.{Init}
use Rattle.manifest.specs.rule.Probe.{Probe}
use Rattle.state_diff.specs.declared.seen.CriState.TheVariants.{Running}
use Rattle.state_diff.specs.rule.Instances.{IsNewest, IsState}
use Rattle.probes.specs.declared.probe_set.Cause.{Cause}
use Rattle.probes.specs.rule.Ticks.{HasPassed as PassesBy, IsStarted as IsStartedBy}
use Rattle.probes.specs.rule.Container.{IsKillOrdered as IsOrderedBy, IsInstanceReady}
use Rattle.containers.specs.rule.Ticks.{ContainerTick, listings, SaysOf}

-- the instance's startup probe has passed
abbrev pub HasPassed : Probe → ℕ → List ContainerTick → Type 0
HasPassed probe a h = SaysOf (PassesBy probe) h a

-- the instance is to be killed, for this cause
abbrev pub IsKillOrdered : ContainerSpec → Cause → ℕ → List ContainerTick → Type 0
IsKillOrdered spec cause a h = SaysOf (λ start. IsOrderedBy spec.probes start cause) h a

-- the container serves, as an app container or a sidecar, and its newest instance, a, is running
pub record Serves (spec : ContainerSpec) (h : List ContainerTick) (a : ℕ) : Type 0 where
  pub role : spec.role ≢ Init
  pub newest : IsNewest (listings h) a
  pub runs : IsState (listings h) a Running

-- the container is started: it serves, and the startup of its newest instance has passed
abbrev pub IsStarted : ContainerSpec → List ContainerTick → Type 0
IsStarted spec h = (a : ℕ) × Serves spec h a × SaysOf (IsStartedBy spec.probes.startup) h a

-- the container is ready: it serves, and its newest instance is started and ready by its probes
abbrev pub IsContainerReady : ContainerSpec → List ContainerTick → Type 0
IsContainerReady spec h = (a : ℕ) × Serves spec h a × SaysOf (IsInstanceReady spec.probes) h a

-- after some tick the container was started
abbrev pub WasStarted : ContainerSpec → List ContainerTick → Type 0
WasStarted spec h = (t : ℕ) × HoldsAt (IsStarted spec) h t
