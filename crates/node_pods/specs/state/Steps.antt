-- The pieces of a node's pods, one after the other, at one tick.
use Rattle.std.specs.Prelude.{◌≡◌, ◌≢◌, ◌<◌, ◌≤◌, ℕ, List, length, slice_get, Option, Some, IfSome}
use Rattle.std.specs.Option.{option_flatten}
use Rattle.histories.specs.state.Histories.{EndsBefore}
use Rattle.observations.specs.rule.Pods.{PodObs}
use Rattle.pod_state.specs.rule.Pods.{pod_tick}
use Rattle.pod_piece.specs.state.Listings.{IsNextTick}
use Rattle.pod_piece.specs.rule.Piece.{Piece}
use Rattle.node_pods.specs.state.Pods.{handed_one}

-- none has a tick that is still to come into its status
abbrev pub AreFree : List Piece → Type 0
AreFree pieces = (n : ℕ) (piece : Piece) → slice_get pieces n ≡ Some piece → piece.waiting ≡ 0

-- the observation has this moment, and may be given to the pod
pub record IsShownNext (at : ℕ) (piece : Piece) (observed : PodObs) : Type 0 where
  pub now : observed.at ≡ at
  pub next : IsNextTick piece.pod piece.handed (pod_tick observed)

-- the moment is later than all that the pod has, and what is shown of it, if it is present, has this moment and may be
-- given to it
pub record IsNextAt (at : ℕ) (piece : Piece) (observed : Option PodObs) : Type 0 where
  pub later : EndsBefore piece.handed at
  pub shown : IfSome observed (IsShownNext at piece)

-- the moment is later than all that the pods below a number have, and what is shown of them may be given to them
abbrev pub AreNextBelow : ℕ → List Piece → List (Option PodObs) → ℕ → Type 0
AreNextBelow at pieces shown i =
    (n : ℕ) (piece : Piece) (observed : Option PodObs) → n < i → slice_get pieces n ≡ Some piece
    → slice_get shown n ≡ Some observed → IsNextAt at piece observed

-- what is shown of the pod, if anything, may be given to it
abbrev pub MayTake : Piece → Option PodObs → Type 0
MayTake p shown = IfSome shown (λ observed. IsNextTick p.pod p.handed (pod_tick observed))

-- the piece at the place is another one, made of the one that was there, and no other is
pub record IsChangedAt (f : Piece → Piece) (i : ℕ) (old new : List Piece) : Type 0 where
  pub as_many : length new ≡ length old
  pub here : (piece : Piece) → slice_get old i ≡ Some piece → slice_get new i ≡ Some (f piece)
  pub others : (n : ℕ) → n ≢ i → slice_get new n ≡ slice_get old n

-- the pieces at the places below i are others, each made of the one that was there, and no other is
pub record AreChangedBelow (f : ℕ → Piece → Piece) (i : ℕ) (old new : List Piece) : Type 0 where
  pub as_many : length new ≡ length old
  pub below : (n : ℕ) (piece : Piece) → n < i → slice_get old n ≡ Some piece → slice_get new n ≡ Some (f n piece)
  pub rest : (n : ℕ) → i ≤ n → slice_get new n ≡ slice_get old n

-- the pods below i have what is shown of them, and no other pod has
abbrev pub AreHandedBelow : ℕ → List (Option PodObs) → List Piece → List Piece → Type 0
AreHandedBelow i shown old new = AreChangedBelow (λ n p. handed_one p (option_flatten (slice_get shown n))) i old new
