-- The rule that a deque of pieces keeps.
use Rattle.std.specs.Prelude.{◌≡◌, ℕ, ◌<◌, ◌≤◌, List, [], ◌++◌, map, length, slice_get, Some, All}
use Rattle.std.specs.List.{sum_by}
use mathlib.Core.Option.{some}
use lib.ListN.{get_elem?}
use Rattle.pod_piece.specs.rule.Piece.{Piece}
use Rattle.piece_deques.specs.declared.rule.Tally.{Tally}

-- into this many parts the right to know a whole deque is cut: one for a permit of each worker, and one for its owner
abbrev pub all_parts : ℕ
all_parts = 65

abbrev pub tally : ℕ → List ℕ → List ℕ → Tally
tally parts pushed taken = record { parts = parts; pushed = pushed; taken = taken }

abbrev pub number_of : Piece → ℕ
number_of piece = piece.number

-- the number of each piece is its place
abbrev pub AreNumbered : List Piece → Type 0
AreNumbered pieces = (n : ℕ) (piece : Piece) → slice_get pieces n ≡ Some piece → piece.number ≡ n

-- the piece stands in the list under its number, and is still to be updated
pub record IsPieceDue (all : List Piece) (piece : Piece) : Type 0 where
  pub stands : slice_get all piece.number ≡ Some piece
  pub pending : 0 < piece.waiting

-- a pass with no part has taken nothing, and each other one lists all that was pushed
pub record Lists (pushed : List ℕ) (view : Tally) : Type 0 where
  pub idle : view.parts ≡ 0 → view.taken ≡ []
  pub same : 0 < view.parts → view.pushed ≡ pushed

-- The numbers taken, in order, and then those of the pieces in the deque are the numbers pushed. Each number taken
-- stands in the tally of one pass: so they add up to the same, however numbers are weighed. The pieces in the deque are
-- due
pub record IsDealt (all : List Piece) (items : List Piece) (views : List Tally) : Type 0 where
  pub pushed : List ℕ
  pub taken : List ℕ
  pub in_order : pushed ≡ taken ++ map number_of items
  pub once : (weight : ℕ → ℕ) → sum_by weight taken ≡ sum_by (λ v. sum_by weight v.taken) views
  pub whole : sum_by (λ v. v.parts) views ≡ all_parts
  pub listed : (port : ℕ) (v : Tally) → get_elem? views port ≡ some v → Lists pushed v
  pub due : All (IsPieceDue all) items

-- a pass took these pieces, which are due: their numbers join those that it has taken, no more than were pushed
pub record Took (all : List Piece) (old : Tally) (pieces : List Piece) (new : Tally) : Type 0 where
  pub grown : new ≡ tally old.parts old.pushed (old.taken ++ map number_of pieces)
  pub few : length new.taken ≤ length new.pushed
  pub due : All (IsPieceDue all) pieces

-- where a pass has every part, each number pushed was taken, as often as it was pushed
abbrev pub IsEmptied : Tally → Type 0
IsEmptied v = v.parts ≡ all_parts → (weight : ℕ → ℕ) → sum_by weight v.pushed ≡ sum_by weight v.taken

-- in some state of the deque that keeps its rule no piece is in it, and a pass has this view
pub record FoundEmpty (all : List Piece) (v : Tally) : Type 0 where
  pub views : List Tally
  pub port : ℕ
  pub dealt : IsDealt all [] views
  pub mine : get_elem? views port ≡ some v

-- no pass has taken more than was pushed, or has more than every part
pub record IsBounded (v : Tally) : Type 0 where
  pub few : length v.taken ≤ length v.pushed
  pub parts : v.parts ≤ all_parts
