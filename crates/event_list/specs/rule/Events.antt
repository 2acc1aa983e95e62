-- The events of a node, tick by tick: the events of its pods by their numbers, the node's own, and the choice of the
-- pod to evict. (Kubernetes, "Pod Lifecycle" and "Node-pressure Eviction"; the order is this profile's.)
use Rattle.std.specs.Prelude.{◌≡◌, ℕ, ◌+◌, ◌≤◌, Bool, true, false, List, [], ◌∷◌, ◌++◌, length, map, take, slice_get}
use Rattle.std.specs.Prelude.{Option, Some, None}
use Rattle.std.specs.List.{flat_map}
use Rattle.manifest.specs.declared.pod.PodSpec.{PodSpec}
use Rattle.node_config.specs.declared.node.NodeConfig.{NodeConfig}
use Rattle.observations.specs.rule.Pods.{PodObs}
use Rattle.observations.specs.declared.tick.TickObs.{TickObs}
use Rattle.observations.specs.rule.Observations.{shown_of}
use Rattle.node_signals.specs.declared.event.NodeEvent.{NodeEvent}
use Rattle.node_signals.specs.rule.Events.{AreNodeEvents}
use Rattle.pod_state.specs.declared.events.PodEvent.{PodEvent}
use Rattle.pod_state.specs.rule.Pods.{pod_tick}
use Rattle.pod_state.specs.rule.Events.{AreEventsOf}
use Rattle.pod_piece.specs.rule.Piece.{place_of}
use Rattle.eviction.specs.declared.eviction.Eviction.{Eviction}
use Rattle.eviction.specs.rule.Replay.{pod_ticks, own_eviction, IsChoiceOfTick}
use Rattle.event_list.specs.declared.event.Event.{Event}
use Rattle.event_list.specs.declared.event.EventKind.{EventKind}
use Rattle.event_list.specs.declared.event.EventKind.TheVariants.{Pod, Node, Evicted, Named}

-- the events of each pod that a tick shows, where the tick comes after these ticks with these evictions; a pod that
-- is not present has none, and the tick shows none but the pods that there are
pub record ArePodEvents (config : NodeConfig) (pods : List PodSpec) (before : List TickObs) (tick : TickObs)
    (evictions : List (Option Eviction)) (made : List (List PodEvent)) : Type 0 where
  pub known : length tick.pods ≤ length pods
  pub as_many : length made ≡ length tick.pods
  pub each : (n : ℕ) (pod : PodSpec) (shown : PodObs) (events : List PodEvent) → slice_get pods n ≡ Some pod
      → shown_of tick n ≡ Some shown → slice_get made n ≡ Some events
      → AreEventsOf pod config.max_restart_delay (place_of (own_eviction n before evictions))
      (pod_ticks before n) (pod_tick shown) events
  pub absent : (n : ℕ) (events : List PodEvent) → shown_of tick n ≡ None → slice_get made n ≡ Some events
      → events ≡ []

-- an event at a moment
abbrev pub event : ℕ → EventKind → Event
event at kind = record { at = at; kind = kind }

-- the events at a moment of the pods that are numbered from n on
abbrev pub of_pods : ℕ → ℕ → List (List PodEvent) → List Event
of_pods at n [] = []
of_pods at n (events ∷ made) = map (λ (e : PodEvent). event at (Pod n e)) events ++ of_pods at (n + 1) made

-- the events of the node at a moment
abbrev pub of_node : ℕ → List NodeEvent → List Event
of_node at events = map (λ (e : NodeEvent). event at (Node e)) events

-- the chosen pod is evicted; if the trace reports whom the node evicted, the rules only name it
abbrev pub kind_of_choice : Bool → Eviction → EventKind
kind_of_choice true choice = Named choice
kind_of_choice false choice = Evicted choice

-- the event of the choice at a moment, if there is one
abbrev pub of_choice : Bool → ℕ → Option Eviction → List Event
of_choice recorded at None = []
of_choice recorded at (Some choice) = event at (kind_of_choice recorded choice) ∷ []

-- all events of a tick that comes after these ticks with these evictions: first its pods', then the
-- node's, then its choice
pub record AreTickEvents (config : NodeConfig) (pods : List PodSpec) (before : List TickObs) (tick : TickObs)
    (evictions : List (Option Eviction)) (events : List Event) : Type 0 where
  pub made : List (List PodEvent)
  pub are_made : ArePodEvents config pods before tick evictions made
  pub node_events : List NodeEvent
  pub are_node_events : AreNodeEvents config.eviction config.eviction_pressure_transition_period before tick node_events
  pub choice : Option Eviction
  pub is_choice : IsChoiceOfTick config pods before tick evictions choice
  pub in_order : events
      ≡ of_pods tick.at 0 made
      ++ (of_node tick.at node_events ++ of_choice config.evictions_recorded tick.at choice)

-- all events of these ticks with their evictions, tick after tick
pub record AreEvents (config : NodeConfig) (pods : List PodSpec) (ticks : List TickObs)
    (evictions : List (Option Eviction)) (events : List Event) : Type 0 where
  pub parts : List (List Event)
  pub as_many : length parts ≡ length ticks
  pub each : (t : ℕ) (tick : TickObs) (part : List Event) → slice_get ticks t ≡ Some tick
      → slice_get parts t ≡ Some part → AreTickEvents config pods (take t ticks) tick (take t evictions) part
  pub whole : events ≡ flat_map (λ (part : List Event). part) parts
