-- Laws of phases, conditions and container states, over the definitions alone.
use Rattle.std.specs.Prelude.{◌≡◌, ◌⊎◌, ◌↔◌, ◌-◌, ◌≤◌, ℕ, suc, List, [], ◌++◌, length, All, Option, Some}
use Rattle.histories.specs.rule.Histories.{HoldsAt, moment_at}
use Rattle.histories.specs.state.Histories.{IsRising}
use Rattle.manifest.specs.declared.pod.PodSpec.{PodSpec}
use Rattle.probes.specs.state.Container.{AreInRange}
use Rattle.phase.specs.declared.phase.Phase.{Phase}
use Rattle.phase.specs.declared.restart_view.RestartView.{RestartView}
use Rattle.phase.specs.rule.RawPhase.{IsTerminal}
use Rattle.pod_state.specs.declared.lifecycle.Lifecycle.{Lifecycle}
use Rattle.containers.specs.declared.status.ContainerStatus.{ContainerStatus}
use Rattle.pod_state.specs.declared.events.PodEvent.{PodEvent}
use Rattle.pod_state.specs.rule.Events.{AreEventsOf}
use Rattle.pod_state.specs.rule.Pods.{PodTick, IsEnd, HasEnded, IsRawPhaseAfter, IsPhase, IsInitialized}
use Rattle.pod_state.specs.state.Pods.{AreViewsOf}
use Rattle.pod_state.specs.rule.Pods.{AreContainersReady}
use Rattle.pod_state.specs.rule.Gates.{IsReady}
use Rattle.pod_state.specs.rule.Lifecycles.{IsLifecycleOf}
use Rattle.pod_state.specs.rule.Containers.{IsContainerStatus, AreStatusesOf}

-- a pod has exactly one raw phase after ticks of which each container has a view
pub record OneRawPhase : Type 0 where
  pub some : (pod : PodSpec) (h : List PodTick) (views : List RestartView) → AreViewsOf pod h views
      → (p : Phase) × IsRawPhaseAfter pod h p
  pub no_other : (pod : PodSpec) (h : List PodTick) (p q : Phase) → IsRawPhaseAfter pod h p
      → IsRawPhaseAfter pod h q → p ≡ q

-- there is at most one phase
abbrev pub OnePhase : Type 0
OnePhase = (pod : PodSpec) (evicted : Option ℕ) (h : List PodTick) (p q : Phase) → IsPhase pod evicted h p
    → IsPhase pod evicted h q → p ≡ q

-- a pod that has succeeded or failed keeps that phase, and no other, whatever ticks come later
pub record EndedStaysEnded : Type 0 where
  pub keeps : (pod : PodSpec) (evicted : Option ℕ) (h later : List PodTick) (p : Phase)
      → IsPhase pod evicted h p → IsTerminal p → IsPhase pod evicted (h ++ later) p
  pub no_other : (pod : PodSpec) (evicted : Option ℕ) (h later : List PodTick) (p q : Phase)
      → IsPhase pod evicted h p → IsTerminal p → IsPhase pod evicted (h ++ later) q → q ≡ p

-- m is the moment of a tick that is the first, or with which C changed; and where moments rise it is
-- not later than the last tick's
pub record ChangesAt (h : List PodTick) (C : List PodTick → Type 0) (m : ℕ) : Type 0 where
  pub place : ℕ
  pub moment : moment_at h place ≡ Some m
  pub change : (place ≡ 0) ⊎ ((u : ℕ) × (place ≡ suc u) × ((HoldsAt C h u ↔ HoldsAt C h place) → ⊥))
  pub not_later : (last : ℕ) → IsRising h → moment_at h (length h - 1) ≡ Some last → m ≤ last

-- a transition moment is the moment of a tick that changed the condition, or of the first tick
pub record TransitionsAreChanges : Type 0 where
  pub pod_scheduled : (pod : PodSpec) (evicted : Option ℕ) (h : List PodTick) (status : Lifecycle) (m : ℕ)
      → IsLifecycleOf pod evicted h status
      → status.conditions.pod_scheduled.since ≡ Some m → ChangesAt h (λ _. Unit {0}) m
  pub initialized : (pod : PodSpec) (evicted : Option ℕ) (h : List PodTick) (status : Lifecycle) (m : ℕ)
      → IsLifecycleOf pod evicted h status
      → status.conditions.initialized.since ≡ Some m → ChangesAt h (IsInitialized pod evicted) m
  pub containers_ready : (pod : PodSpec) (evicted : Option ℕ) (h : List PodTick) (status : Lifecycle) (m : ℕ)
      → IsLifecycleOf pod evicted h status
      → status.conditions.containers_ready.since ≡ Some m → ChangesAt h (AreContainersReady pod evicted) m
  pub ready : (pod : PodSpec) (evicted : Option ℕ) (h : List PodTick) (status : Lifecycle) (m : ℕ)
      → IsLifecycleOf pod evicted h status
      → status.conditions.ready.since ≡ Some m → ChangesAt h (IsReady pod evicted) m

-- every pod, whenever it is evicted and whatever its ticks are, has a raw phase, an end or none, a phase,
-- a lifecycle, and statuses of its containers
pub record SomeStatus : Type 0 where
  pub raw_phase : (pod : PodSpec) (h : List PodTick) → (p : Phase) × IsRawPhaseAfter pod h p
  pub end : (pod : PodSpec) (evicted : Option ℕ) (h : List PodTick) → (end : Option ℕ) × IsEnd pod evicted h end
  pub phase : (pod : PodSpec) (evicted : Option ℕ) (h : List PodTick) → (p : Phase) × IsPhase pod evicted h p
  pub of_pod : (pod : PodSpec) (evicted : Option ℕ) (h : List PodTick) → (s : Lifecycle) × IsLifecycleOf pod evicted h s
  pub of_containers : (pod : PodSpec) (evicted : Option ℕ) (h : List PodTick)
      → (statuses : List ContainerStatus) × AreStatusesOf pod evicted h statuses

-- a pod has at most one lifecycle, and each of its containers at most one status
pub record OneStatus : Type 0 where
  pub of_pod : (pod : PodSpec) (evicted : Option ℕ) (h : List PodTick) (s t : Lifecycle)
      → IsLifecycleOf pod evicted h s → IsLifecycleOf pod evicted h t → s ≡ t
  pub of_container : (pod : PodSpec) (evicted : Option ℕ) (h : List PodTick) (container : ℕ) (s t : ContainerStatus)
      → IsContainerStatus pod evicted h container s → IsContainerStatus pod evicted h container t → s ≡ t

-- a pod that has ended makes no events, whatever its containers do
abbrev pub NoEventsAfterTheEnd : Type 0
NoEventsAfterTheEnd =
    (pod : PodSpec) (max_restart_delay : ℕ) (evicted : Option ℕ) (before : List PodTick) (tick : PodTick)
    (events : List PodEvent)
    → HasEnded pod evicted before → AreEventsOf pod max_restart_delay evicted before tick events → events ≡ []

-- a tick makes a list of events, where the numbers of the probes of each container are in their ranges
abbrev pub SomeListOfEvents : Type 0
SomeListOfEvents =
    (pod : PodSpec) (max_restart_delay : ℕ) (evicted : Option ℕ) (before : List PodTick) (tick : PodTick)
    → All (λ spec. AreInRange spec.probes) pod.containers
    → (events : List PodEvent) × AreEventsOf pod max_restart_delay evicted before tick events

-- the events of a tick are determined, with their order
abbrev pub OneListOfEvents : Type 0
OneListOfEvents =
    (pod : PodSpec) (max_restart_delay : ℕ) (evicted : Option ℕ) (before : List PodTick) (tick : PodTick)
    (events others : List PodEvent)
    → AreEventsOf pod max_restart_delay evicted before tick events
    → AreEventsOf pod max_restart_delay evicted before tick others
    → events ≡ others
