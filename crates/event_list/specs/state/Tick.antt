-- The events of ticks, by what the rounds of their pods made, and the node's conditions.
use Rattle.std.specs.Prelude.{◌≡◌, ◌==◌, ℕ, ◌+◌, ◌<◌, Bool, if◌then◌else◌, List, [], ◌∷◌, ◌++◌, length, map, slice_get}
use Rattle.std.specs.Prelude.{Option, Some, None}
use Rattle.std.specs.List.{filter, filter_map, flat_map}
use Rattle.std.specs.List.Sorted.{IsNonDecreasingBy, IsPermutation}
use Rattle.pod_state.specs.declared.events.PodEvent.{PodEvent}
use Rattle.pod_state.specs.rule.Pods.{PodTick}
use Rattle.pod_piece.specs.rule.Piece.{Piece}
use Rattle.pod_piece.specs.state.Made.{MadeEvent, round_of, AreRoundEvents}
use Rattle.event_list.specs.declared.event.Event.{Event}
use Rattle.event_list.specs.declared.event.EventKind.TheVariants.{Pod}
use Rattle.event_list.specs.declared.tick.TickEvents.{TickEvents}
use Rattle.event_list.specs.rule.Events.{event, of_pods, of_node}

-- the events of the rounds of all these pods, by number
pub record AreMadeBy (pieces : List Piece) (made : List (List MadeEvent)) : Type 0 where
  pub as_many : length made ≡ length pieces
  pub each : (n : ℕ) (piece : Piece) (events : List MadeEvent) → slice_get pieces n ≡ Some piece
      → slice_get made n ≡ Some events → AreRoundEvents piece events

-- the event, if it is of this moment
abbrev pub event_at : ℕ → MadeEvent → Option PodEvent
event_at at made = if made.at == at then Some made.event else None

-- the events of the moment among these
abbrev pub events_at : ℕ → List MadeEvent → List PodEvent
events_at at made = filter_map (event_at at) made

-- the events of these ticks, tick after tick: first its pods', then the node's
abbrev pub of_ticks : List TickEvents → List (List MadeEvent) → List Event
of_ticks [] made = []
of_ticks (tick ∷ ticks) made =
    of_pods tick.at 0 (map (events_at tick.at) made) ++ (of_node tick.at tick.node_events.items ++ of_ticks ticks made)

-- the events of these ticks are added to those there were
pub record AddsEvents (ticks : List TickEvents) (pieces : List Piece) (old new : List Event) : Type 0 where
  pub made : List (List MadeEvent)
  pub are_made : AreMadeBy pieces made
  pub added : new ≡ old ++ of_ticks ticks made

-- one of these ticks has the moment
abbrev pub IsMomentOf : List TickEvents → ℕ → Type 0
IsMomentOf ticks moment = (t : ℕ) × (tick : TickEvents) × (slice_get ticks t ≡ Some tick) × (tick.at ≡ moment)

-- each tick of the rounds of these pieces has the moment of one of these ticks
abbrev pub AreOfTicks : List TickEvents → List Piece → Type 0
AreOfTicks ticks pieces =
    (n : ℕ) (piece : Piece) (k : ℕ) (x : PodTick) → slice_get pieces n ≡ Some piece
    → slice_get (round_of piece) k ≡ Some x → IsMomentOf ticks x.moment

-- each tick is later than those before it
abbrev pub MomentsRise : List TickEvents → Type 0
MomentsRise ticks =
    (s t : ℕ) (earlier later : TickEvents) → s < t → slice_get ticks s ≡ Some earlier
    → slice_get ticks t ≡ Some later → earlier.at < later.at

-- the events of a pod with the number, each at its moment
abbrev pub events_of : ℕ → List MadeEvent → List Event
events_of n made = map (λ (e : MadeEvent). event e.at (Pod n e.event)) made

-- the events of all these pods, which are numbered from n on
abbrev pub events_by_pod : ℕ → List (List MadeEvent) → List Event
events_by_pod n [] = []
events_by_pod n (events ∷ made) = events_of n events ++ events_by_pod (n + 1) made

-- the events of the node
abbrev pub events_of_node : List TickEvents → List Event
events_of_node ticks = flat_map (λ (tick : TickEvents). of_node tick.at tick.node_events.items) ticks

-- the event is of this moment
abbrev pub is_at : ℕ → Event → Bool
is_at at e = e.at == at

-- the same events by their moments, where the events of one moment keep their order
pub record IsInOrder (old new : List Event) : Type 0 where
  pub rising : IsNonDecreasingBy (λ (e : Event). e.at) new
  pub same : IsPermutation old new
  pub stable : (at : ℕ) → filter (is_at at) new ≡ filter (is_at at) old
