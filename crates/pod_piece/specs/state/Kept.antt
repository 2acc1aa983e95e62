-- What a piece keeps in addition to its history.
use Rattle.std.specs.Prelude.{◌≡◌, ℕ, suc, ◌+◌, ◌≤◌, ◌<◌, List, length, take, slice_get, Option, Some, None, IfSome}
use Rattle.quantity.specs.rule.Duration.{end_of_time}
use Rattle.histories.specs.rule.Histories.{last_moment}
use Rattle.histories.specs.state.Histories.{IsRising}
use Rattle.state_diff.specs.declared.differ.Differ.{Differ}
use Rattle.pod_state.specs.declared.events.PodEvent.{PodEvent}
use Rattle.pod_state.specs.declared.state.PodState.{PodState}
use Rattle.manifest.specs.declared.pod.PodSpec.{PodSpec}
use Rattle.pod_state.specs.rule.Pods.{PodTick, IsEnd}
use Rattle.pod_state.specs.state.Lifecycles.{IsProgressOf}
use Rattle.pod_state.specs.state.States.{before_of, IsStateOf}
use Rattle.pod_piece.specs.declared.made.MadeTick.{MadeTick}
use Rattle.pod_piece.specs.declared.piece.Parts.{Parts}
use Rattle.pod_piece.specs.declared.status.PodStatus.{PodStatus}
use Rattle.pod_piece.specs.rule.Piece.{Piece, ticks}
use Rattle.pod_piece.specs.state.Piece.{piece, before_last, evicted_at}
use Rattle.pod_piece.specs.state.Listings.{IsNextTick, AreListedOnceEnded}
use Rattle.pod_piece.specs.state.Status.{IsStatusOf, AreLastEvents}
use Rattle.pod_piece.specs.state.Made.{AreEarlierEvents}

-- the evictions of the pod that are possible still: the one that there was, or, if there was none, none or one at
-- place n or later
abbrev pub MayBe : Option ℕ → ℕ → Option ℕ → Type 0
MayBe None n None = Unit {0}
MayBe None n (Some t) = n ≤ t
MayBe (Some place) n evicted = evicted ≡ Some place

-- the pod ended by its eviction, at this place
pub record EndsAt (pod : PodSpec) (h : List PodTick) (place : ℕ) : Type 0 where
  pub within : place < length h
  pub is_end : IsEnd pod (Some place) h (Some place)

-- the counters are the state of these ticks, whatever eviction is still to come
pub record IsStateAfter (pod : PodSpec) (max_restart_delay : ℕ) (evicted : Option ℕ) (h : List PodTick)
    (state : PodState) : Type 0 where
  pub ended : IfSome evicted (EndsAt pod h)
  pub now : (e : Option ℕ) → MayBe evicted (length h) e → IsStateOf pod max_restart_delay e h state
  pub before : evicted ≡ None → (e : Option ℕ) → MayBe None (length (before_last h)) e
      → IsProgressOf pod e (before_last h) (before_of state)

-- the ticks are apart from each other, each later than those before it, and so few
pub record AreSpread (h : List PodTick) : Type 0 where
  pub rising : IsRising h
  pub few : IfSome (last_moment h) (λ last. length h ≤ suc last)
  pub bounded : IfSome (last_moment h) (λ last. last < end_of_time)

-- the ticks that are still to come into the status of a piece may come next, each after those before it
abbrev pub MayWait : Piece → Type 0
MayWait p =
    (place : ℕ) (tick : PodTick) → length p.handed ≤ place + p.waiting → slice_get p.handed place ≡ Some tick
    → IsNextTick p.pod (take place p.handed) tick

-- the values that are kept with the history are the ones that follow from it
pub record IsKept (p : Piece) (differs : List Differ) (state : PodState) (status : PodStatus)
    (earlier : List MadeTick) (events : List PodEvent) : Type 0 where
  pub within : p.waiting ≤ length p.handed
  pub begun : p.begun ≤ length (ticks p)
  pub spread : AreSpread p.handed
  pub listed : AreListedOnceEnded p.pod (evicted_at p) (ticks p) differs
  pub next : MayWait p
  pub after : IsStateAfter p.pod p.max_restart_delay (evicted_at p) (ticks p) state
  pub shown : IsStatusOf p status
  pub made_earlier : AreEarlierEvents p earlier
  pub made : AreLastEvents p events

-- the piece of these fields
abbrev pub piece_of : Parts → Piece
piece_of parts =
    piece parts.number parts.pod parts.max_restart_delay parts.history parts.waiting parts.begun parts.eviction

-- what holds of the fields of every piece
abbrev pub AreKept : Parts → Type 0
AreKept parts =
    IsKept (piece_of parts) parts.differs.items parts.state parts.status parts.earlier.items parts.events.items
