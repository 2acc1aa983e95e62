-- The events of a pod at a tick that comes after these ticks of it, by their places: container by
-- container, then the pod's own. (Kubernetes, "Pod Lifecycle"; the places, and that an end leaves
-- no events after it, are this profile's rule.)
use Rattle.std.specs.Prelude.{◌≡◌, ◌⊎◌, ℕ, ◌+◌, ◌<◌, Bool, true, false, List, [], ◌∷◌, ◌++◌, length, Option, Some}
use Rattle.std.specs.Prelude.{None, option_map, IsTrue, ◌||◌}
use Rattle.std.specs.Prelude.{slice_index_or}
use Rattle.std.specs.List.{filter_map}
use Rattle.histories.specs.rule.TheOne.{IsTheOne}
use Rattle.manifest.specs.declared.pod.PodSpec.{PodSpec}
use Rattle.phase.specs.declared.phase.Phase.{Phase}
use Rattle.phase.specs.declared.phase.Phase.TheVariants.{Pending, Running, Succeeded, Failed}
use Rattle.containers.specs.declared.pod_event_kind.PodEventKind.{PodEventKind}
use Rattle.containers.specs.declared.pod_event_kind.PodEventKind.TheVariants as kinds
use Rattle.containers.specs.declared.events.ContainerEvents.{ContainerEvents}
use Rattle.containers.specs.rule.Events.{AreEvents}
use Rattle.pod_state.specs.declared.events.PodEvent.{PodEvent}
use Rattle.phase.specs.rule.RawPhase.{Where}
use Rattle.pod_state.specs.rule.Pods.{PodTick, ticks_of, OfSpec, HasEnded, IsRawPhaseAfter, IsPhase, is_being_deleted}
use Rattle.pod_state.specs.rule.Pods.{says_failed}

-- what the tick makes of the container with the number, by itself
abbrev pub IsMadeOf : PodSpec → ℕ → List PodTick → PodTick → ℕ → ContainerEvents → Type 0
IsMadeOf pod max_restart_delay before tick number made =
    OfSpec pod number (λ spec. AreEvents pod.policy max_restart_delay spec (ticks_of (before ++ tick ∷ []) number)
    (length before) made)

-- what the tick makes of each container, by itself
pub record AreMade (pod : PodSpec) (max_restart_delay : ℕ) (before : List PodTick) (tick : PodTick)
    (made : List ContainerEvents) : Type 0 where
  pub as_many : length made ≡ length pod.containers
  pub each : (number : ℕ) (d : ContainerEvents) → number < length pod.containers
      → IsMadeOf pod max_restart_delay before tick number (slice_index_or made number d)

-- the phase that the tick leaves a pod in that had not ended, an eviction aside: Failed if it reports that the node has
-- ended it, else its raw phase
abbrev pub IsPhaseLeft : PodSpec → List PodTick → PodTick → Phase → Type 0
IsPhaseLeft pod before tick phase =
    Where (IsTrue (says_failed tick)) (phase ≡ Failed) (IsRawPhaseAfter pod (before ++ tick ∷ []) phase)

-- the pod's phase is another than before the tick
abbrev pub ChangesPhase : PodSpec → Option ℕ → List PodTick → PodTick → PodEventKind → Type 0
ChangesPhase pod evicted before tick kind =
    (phase : Phase) × (kind ≡ kinds.Phase phase) × IsPhaseLeft pod before tick phase
    × (IsPhase pod evicted before phase → ⊥)

-- nothing is restarted in a pod that has succeeded or failed
abbrev pub restart_in : Phase → Option PodEventKind → Option PodEventKind
restart_in Pending restart = restart
restart_in Running restart = restart
restart_in Succeeded restart = None
restart_in Failed restart = None

-- the pod is leaving with the tick: it is being deleted, or the tick reports that the node has ended it
abbrev pub is_leaving : List PodTick → PodTick → Bool
is_leaving before tick = is_being_deleted (before ++ tick ∷ []) || says_failed tick

-- a container of a pod that is leaving is not killed by a probe, nor restarted, now or later
abbrev pub unless_leaving : Bool → Option PodEventKind → Option PodEventKind
unless_leaving true event = None
unless_leaving false event = event

-- what comes of a container's events in a pod that the tick leaves in this phase, and that is leaving or not
abbrev pub coming_in : Phase → Bool → ContainerEvents → ContainerEvents
coming_in phase leaving made = record made {
  kill = unless_leaving leaving made.kill;
  backoff = unless_leaving leaving made.backoff;
  restart = unless_leaving leaving (restart_in phase made.restart);
}

-- the places of a container's events
abbrev pub places : ContainerEvents → List (Option PodEventKind)
places made =
    made.gone ∷ made.started ∷ made.died ∷ made.passed ∷ made.kill ∷ made.readiness ∷ made.backoff ∷ made.restart ∷ []

-- the events of these places: of a container with a number, or of the pod
abbrev pub events_at : Option ℕ → List (Option PodEventKind) → List PodEvent
events_at container places = filter_map (option_map (λ kind. record { container = container; kind = kind })) places

-- the events of all containers, numbered from n on
abbrev pub events_from : Phase → Bool → ℕ → List ContainerEvents → List PodEvent
events_from phase leaving n [] = []
events_from phase leaving n (made ∷ rest) =
    events_at (Some n) (places (coming_in phase leaving made)) ++ events_from phase leaving (n + 1) rest

-- the events of a tick of a pod that has not ended before it
pub record AreEventsOfLivePod (pod : PodSpec) (max_restart_delay : ℕ) (evicted : Option ℕ) (before : List PodTick)
    (tick : PodTick) (events : List PodEvent) : Type 0 where
  pub made : List ContainerEvents
  pub are_made : AreMade pod max_restart_delay before tick made
  pub phase : Phase
  pub is_phase : IsPhaseLeft pod before tick phase
  pub change : Option PodEventKind
  pub changes : IsTheOne (ChangesPhase pod evicted before tick) change
  pub in_order : events ≡ events_from phase (is_leaving before tick) 0 made ++ events_at None (change ∷ [])

-- the events of the tick; a pod that has ended makes none
abbrev pub AreEventsOf : PodSpec → ℕ → Option ℕ → List PodTick → PodTick → List PodEvent → Type 0
AreEventsOf pod max_restart_delay evicted before tick events =
    (HasEnded pod evicted before × (events ≡ []))
    ⊎ ((HasEnded pod evicted before → ⊥) × AreEventsOfLivePod pod max_restart_delay evicted before tick events)
