-- The pods of a node, and what a tick and an eviction make of them. (Kubernetes, "Pod Lifecycle" and
-- "Node-pressure Eviction".)
use Rattle.std.specs.Prelude.{◌≡◌, ◌≢◌, ℕ, ◌+◌, ◌≤◌, Bool, List, [], ◌∷◌, ◌++◌, length, slice_get, nat_lt}
use Rattle.std.specs.Prelude.{Option, Some, None, if◌then◌else◌}
use Rattle.std.specs.Option.{option_flatten}
use Rattle.histories.specs.rule.Histories.{last_moment}
use Rattle.histories.specs.state.Histories.{EndsBefore}
use Rattle.manifest.specs.declared.pod.PodSpec.{PodSpec}
use Rattle.observations.specs.rule.Pods.{PodObs}
use Rattle.observations.specs.declared.tick.TickObs.{TickObs}
use Rattle.observations.specs.rule.Observations.{shown_of}
use Rattle.pod_state.specs.rule.Pods.{PodTick, pod_tick}
use Rattle.pod_piece.specs.declared.order.EvictOrder.{EvictOrder}
use Rattle.pod_piece.specs.declared.status.PodStatus.{PodStatus}
use Rattle.pod_piece.specs.state.Listings.{IsNextTick}
use Rattle.pod_piece.specs.rule.Status.{MayBeEvicted}
use Rattle.pod_piece.specs.rule.Piece.{Piece, updated}
use Rattle.pod_piece.specs.state.Piece.{new_piece, with_tick, all_updated, at_rest, with_eviction}
use Rattle.pod_piece.specs.state.Piece.{with_number}
use Rattle.pod_piece.specs.state.Status.{IsStatusOf}

-- the pods that have arrived on a node, by their numbers
pub record Pods : Type 0 where
  pub pieces : List Piece
  -- the node's maximum restart delay, in seconds
  pub max_restart_delay : ℕ
  pub has_dedicated_imagefs : Bool

-- the pods with these pieces
abbrev pub pods_of : List Piece → ℕ → Bool → Pods
pods_of pieces max_restart_delay has_dedicated_imagefs =
    record { pieces = pieces; max_restart_delay = max_restart_delay; has_dedicated_imagefs = has_dedicated_imagefs }

-- one more pod, after the others
abbrev pub with_pod : Pods → PodSpec → Pods
with_pod pods pod =
    pods_of (pods.pieces ++ new_piece (length pods.pieces) pod pods.max_restart_delay ∷ []) pods.max_restart_delay
    pods.has_dedicated_imagefs

-- the pod has its place as its number
pub record IsNumbered (max_restart_delay : ℕ) (n : ℕ) (piece : Piece) : Type 0 where
  pub number_is : piece.number ≡ n
  pub max_restart_delay_is : piece.max_restart_delay ≡ max_restart_delay

-- each pod has
abbrev pub AreNumbered : Pods → Type 0
AreNumbered pods = (n : ℕ) (piece : Piece) → slice_get pods.pieces n ≡ Some piece
    → IsNumbered pods.max_restart_delay n piece

-- a pod of a node between two rounds: its number is its place, all its ticks have come into its status, and its last
-- round is over
pub record IsPlaced (max_restart_delay : ℕ) (n : ℕ) (piece : Piece) : Type 0 where
  pub number_is : piece.number ≡ n
  pub max_restart_delay_is : piece.max_restart_delay ≡ max_restart_delay
  pub free : piece.waiting ≡ 0
  pub rested : piece.begun ≡ length piece.handed

-- each pod has its place as its number, and nothing that waits
abbrev pub ArePlaced : Pods → Type 0
ArePlaced pods = (n : ℕ) (piece : Piece) → slice_get pods.pieces n ≡ Some piece
    → IsPlaced pods.max_restart_delay n piece

-- a pod that may be evicted at a moment, and its status: it is present, since the tick of the moment shows it, and it
-- has not ended, unless that tick reports that the node has ended it
pub record IsCandidate (pieces : List Piece) (moment n : ℕ) (status : PodStatus) : Type 0 where
  pub piece : Piece
  pub at : slice_get pieces n ≡ Some piece
  pub present : last_moment piece.handed ≡ Some moment
  pub is_status : IsStatusOf piece status
  pub may : MayBeEvicted moment status

-- what is shown of the pods that are present, of each at its number, may be given to them
pub record AreNext (pieces : List Piece) (shown : List (Option PodObs)) : Type 0 where
  pub within : length shown ≤ length pieces
  pub each : (n : ℕ) (piece : Piece) (observed : PodObs) → slice_get pieces n ≡ Some piece
      → slice_get shown n ≡ Some (Some observed) → IsNextTick piece.pod piece.handed (pod_tick observed)

-- what the tick shows of the pods that are present may be given to them, at the tick's own moment, which is later than
-- all that the pods have
pub record MayBeHanded (pieces : List Piece) (tick : TickObs) : Type 0 where
  pub next : AreNext pieces tick.pods
  pub at_its_moment : (n : ℕ) (observed : PodObs) → shown_of tick n ≡ Some observed → observed.at ≡ tick.at
  pub later : (n : ℕ) (piece : Piece) → slice_get pieces n ≡ Some piece → EndsBefore piece.handed tick.at

-- the tick has for each pod what it shows or that it is not present, and what it shows may be given to it
pub record Fits (pods : Pods) (tick : TickObs) : Type 0 where
  pub told : length tick.pods ≡ length pods.pieces
  pub handed : MayBeHanded pods.pieces tick

-- the pieces, each as f makes it of what is shown of its pod; where nothing is shown of more, those stay
abbrev pub with_shown : (Piece → Option PodObs → Piece) → List Piece → List (Option PodObs) → List Piece
with_shown f [] shown = []
with_shown f (p ∷ ps) [] = p ∷ ps
with_shown f (p ∷ ps) (o ∷ shown) = f p o ∷ with_shown f ps shown

-- the piece once it has what is shown of its pod, if that is present
abbrev pub handed_one : Piece → Option PodObs → Piece
handed_one p None = p
handed_one p (Some observed) = with_tick p (pod_tick observed)

-- the pieces once each pod that is present has what is shown of it
abbrev pub handed_each : List Piece → List (Option PodObs) → List Piece
handed_each pieces shown = with_shown handed_one pieces shown

-- some tick waits for it
abbrev pub waits : Piece → Bool
waits p = nat_lt 0 p.waiting

-- the pieces that go out for their updates, since some tick waits for them; while they are out the number of each is
-- its place among them, from k on
abbrev pub sent_from : ℕ → List Piece → List Piece
sent_from k [] = []
sent_from k (p ∷ ps) = if waits p then with_number p k ∷ sent_from (k + 1) ps else sent_from k ps

-- the pieces that stay, each at its number, and nothing where one went out
abbrev pub staying : List Piece → List (Option Piece)
staying [] = []
staying (p ∷ ps) = (if waits p then None else Some p) ∷ staying ps

-- all pieces, once those that went out are back, each with its number, from n on
abbrev pub joined_from : ℕ → List (Option Piece) → List Piece → List Piece
joined_from n [] back = []
joined_from n (Some p ∷ kept) back = p ∷ joined_from (n + 1) kept back
joined_from n (None ∷ kept) [] = joined_from n kept []
joined_from n (None ∷ kept) (q ∷ back) = with_number q n ∷ joined_from (n + 1) kept back

-- the piece once it has a tick, which has come into its status, and its round is over
abbrev pub after_tick : Piece → PodTick → Piece
after_tick p tick = at_rest (updated (with_tick p tick))

-- what becomes of the piece in a tick, by what is shown of its pod
abbrev pub after_one : Piece → Option PodObs → Piece
after_one p None = p
after_one p (Some observed) = after_tick p (pod_tick observed)

-- what becomes of the pieces
abbrev pub after_each : List Piece → List (Option PodObs) → List Piece
after_each pieces shown = with_shown after_one pieces shown

-- the piece once all that waits has come into its status, and its round is over
abbrev pub closed : Piece → Piece
closed p = at_rest (all_updated p)

-- the pieces once each pod that is present has what is shown of it, and has taken it into its status. One that is not
-- present stays as it was
pub record AreAfter (old : List Piece) (shown : List (Option PodObs)) (new : List Piece) : Type 0 where
  pub as_many : length new ≡ length old
  pub each : (n : ℕ) (piece : Piece) (observed : PodObs) → slice_get old n ≡ Some piece
      → slice_get shown n ≡ Some (Some observed)
      → slice_get new n ≡ Some (after_tick piece (pod_tick observed))
  pub absent : (n : ℕ) (piece : Piece) → slice_get old n ≡ Some piece
      → option_flatten (slice_get shown n) ≡ None → slice_get new n ≡ Some piece

-- what a node keeps of its pods while the pieces of those for which ticks wait take them into their statuses
pub record Awaited : Type 0 where
  pub kept : List (Option Piece)
  pub max_restart_delay : ℕ
  pub has_dedicated_imagefs : Bool

-- a node that keeps these pieces
abbrev pub awaited : List (Option Piece) → ℕ → Bool → Awaited
awaited kept max_restart_delay has_dedicated_imagefs =
    record { kept = kept; max_restart_delay = max_restart_delay; has_dedicated_imagefs = has_dedicated_imagefs }

-- the pods of the node with the pieces that come back
abbrev pub joined : Awaited → List Piece → Pods
joined a back = pods_of (joined_from 0 a.kept back) a.max_restart_delay a.has_dedicated_imagefs

-- the pod with the number may be evicted by the tick of this moment
abbrev pub IsEvictable : List Piece → ℕ → ℕ → Type 0
IsEvictable pieces number at = (status : PodStatus) × IsCandidate pieces at number status

-- the pieces once the pod with the number was evicted by the tick that came last
pub record AreEvicted (old : List Piece) (number : ℕ) (order : EvictOrder) (new : List Piece) : Type 0 where
  pub as_many : length new ≡ length old
  pub here : (piece : Piece) → slice_get old number ≡ Some piece
      → slice_get new number ≡ Some (with_eviction piece order)
  pub others : (n : ℕ) → n ≢ number → slice_get new n ≡ slice_get old n
