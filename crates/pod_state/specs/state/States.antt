-- The state of a pod after its ticks.
use Rattle.std.specs.Prelude.{◌≡◌, ℕ, ◌<◌, List, [], ◌∷◌, ◌++◌, length, Option, Some, slice_get, slice_index_or}
use Rattle.std.specs.Prelude.{unwrap_or}
use Rattle.manifest.specs.declared.pod.PodSpec.{PodSpec}
use Rattle.observations.specs.declared.container.ContainerObs.{ContainerObs}
use Rattle.containers.specs.declared.container.Container.{Container}
use Rattle.containers.specs.state.Container.{Accepts, IsBefore}
use Rattle.phase.specs.rule.RawPhase.{IsTerminal}
use Rattle.pod_state.specs.declared.events.PodEvent.{PodEvent}
use Rattle.pod_state.specs.declared.lifecycle.Lifecycle.{Lifecycle}
use Rattle.pod_state.specs.declared.state.PodState.{PodState}
use Rattle.pod_state.specs.rule.Pods.{PodTick, unseen, is_being_deleted}
use Rattle.pod_state.specs.state.Containers.{AreKept}
use Rattle.pod_state.specs.state.Gates.{AreStatusesOf}
use Rattle.pod_state.specs.state.Lifecycles.{IsProgressOf}
use Rattle.pod_state.specs.rule.Events.{AreEventsOf}

-- the pod's phase and conditions after these ticks, its containers after those that count, on a node with a maximum
-- restart delay, whether it is being deleted, and the statuses of the conditions that its readiness gates name
pub record IsStateOf (pod : PodSpec) (max_restart_delay : ℕ) (evicted : Option ℕ) (h : List PodTick)
    (state : PodState) : Type 0 where
  pub progress : IsProgressOf pod evicted h state.lifecycle
  pub containers : AreKept pod max_restart_delay evicted h state.containers.items
  pub deleting : state.deleting ≡ is_being_deleted h
  pub gates : AreStatusesOf (length pod.gates) h state.gates

-- a tick that does not evict the pod leads from one state of it to another
abbrev pub LeadsTo : PodSpec → PodTick → PodState → PodState → Type 0
LeadsTo pod tick old new =
    (max_restart_delay : ℕ) (evicted : Option ℕ) (h : List PodTick)
    → (evicted ≡ Some (length h) → ⊥) → IsStateOf pod max_restart_delay evicted h old
    → IsStateOf pod max_restart_delay evicted (h ++ tick ∷ []) new

-- such a tick makes these events
abbrev pub MakesEvents : PodSpec → PodTick → PodState → List PodEvent → Type 0
MakesEvents pod tick old events =
    (max_restart_delay : ℕ) (evicted : Option ℕ) (h : List PodTick)
    → (evicted ≡ Some (length h) → ⊥) → IsStateOf pod max_restart_delay evicted h old
    → AreEventsOf pod max_restart_delay evicted h tick events

-- the pod has this many containers
abbrev pub HasContainers : ℕ → PodState → Type 0
HasContainers count state = count ≡ length state.containers.items

-- the phase and the conditions before the last tick
abbrev pub before_of : PodState → Lifecycle
before_of state = state.before

-- each container's listing may come next
abbrev pub AllAccept : List Container → List ContainerObs → Type 0
AllAccept containers shown =
    (number : ℕ) (d : Container) → number < length containers
    → Accepts (slice_index_or containers number d) (unwrap_or (slice_get shown number) unseen).seen

-- the last tick of each container is before the moment
abbrev pub AllBefore : List Container → ℕ → Type 0
AllBefore containers moment =
    (number : ℕ) (d : Container) → number < length containers → IsBefore (slice_index_or containers number d) moment

-- unless the pod has ended, each container's listing may come next, at this moment
pub record MayFollow (state : PodState) (at : ℕ) (shown : List ContainerObs) : Type 0 where
  pub accepted : (IsTerminal state.lifecycle.phase → ⊥) → AllAccept state.containers.items shown
  pub later : (IsTerminal state.lifecycle.phase → ⊥) → AllBefore state.containers.items at
