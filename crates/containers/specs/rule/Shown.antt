-- What a status shows of one container (Kubernetes, "Pod Lifecycle", "Container states"; restarts
-- by the greatest attempt are this profile's rule).
use Rattle.std.specs.Prelude.{◌≡◌, ◌⊎◌, ◌↔◌, ℕ, ℤ, List, Some, IsTrue}
use Rattle.manifest.specs.declared.pod.ContainerSpec.{ContainerSpec}
use Rattle.state_diff.specs.declared.seen.CriState.{CriState}
use Rattle.state_diff.specs.declared.seen.CriState.TheVariants.{Created, Running as IsRunning, Exited}
use Rattle.state_diff.specs.rule.Instances.{Tick, Listed, IsNewest, IsState, IsExitCode}
use Rattle.phase.specs.declared.container.ContainerState.{ContainerState}
use Rattle.phase.specs.declared.container.ContainerState.TheVariants.{Waiting, Running, Terminated}
use Rattle.containers.specs.declared.status.ContainerStatus.{ContainerStatus}
use Rattle.containers.specs.rule.Ticks.{ContainerTick, listings}
use Rattle.containers.specs.rule.Probed.{IsStarted, IsContainerReady}

-- the state of an instance that is shown so
abbrev pub state_behind : ContainerState → CriState
state_behind Waiting = Created
state_behind Running = IsRunning
state_behind Terminated = Exited

-- the state of a container: the state of its newest instance, and waiting before any is listed
abbrev pub IsContainerState : List Tick → ContainerState → Type 0
IsContainerState h shown =
    (((a t : ℕ) → Listed h a t → ⊥) × (shown ≡ Waiting))
    ⊎ ((a : ℕ) × IsNewest h a × IsState h a (state_behind shown))

-- the restarts of a container: the greatest attempt listed so far, and 0 before any is listed
abbrev pub IsRestarts : List Tick → ℕ → Type 0
IsRestarts h restarts =
    (((a t : ℕ) → Listed h a t → ⊥) × (restarts ≡ 0))
    ⊎ IsNewest h restarts

-- the newest instance has exited with the code
abbrev pub HasExitedWith : List Tick → ℤ → Type 0
HasExitedWith h code = (a : ℕ) × IsNewest h a × IsExitCode h a code

-- what is shown of the container after these ticks: in a pod that the node has ended, by an eviction or for a reason
-- of its own, no container is ready or started
pub record IsShown (spec : ContainerSpec) (is_ended_by_node : Type 0) (h : List ContainerTick)
    (status : ContainerStatus) : Type 0 where
  pub state : IsContainerState (listings h) status.state
  pub code : (code : ℤ) → ((status.code ≡ Some code) ↔ HasExitedWith (listings h) code)
  pub restarts : IsRestarts (listings h) status.restarts
  pub ready : IsTrue status.ready ↔ ((is_ended_by_node → ⊥) × IsContainerReady spec h)
  pub started : IsTrue status.started ↔ ((is_ended_by_node → ⊥) × IsStarted spec h)
