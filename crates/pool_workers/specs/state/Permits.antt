-- Permits, and the deques that they are of.
use Rattle.std.specs.Prelude.{◌≡◌, ◌≢◌, ◌<◌, ℕ, List, [], length, map, slice_index_or}
use Rattle.std.specs.List.{sum_by}
use Rattle.std.specs.Global.{Global}
use mathlib.Core.Option.{some}
use lib.ListN.{get_elem?}
use Rattle.atomic_blocks.specs.Lent.{RowsId}
use Rattle.crossbeam_deque.specs.Handles.{view, worker_deque, worker_view, stealer_deque, stealer_flavor}
use Rattle.crossbeam_deque.specs.declared.handles.Stealer.{Stealer}
use Rattle.crossbeam_deque.specs.declared.handles.Worker.{Worker}
use Rattle.pod_piece.specs.rule.Piece.{Piece}
use Rattle.piece_deques.specs.declared.rule.Tally.{Tally}
use Rattle.piece_deques.specs.state.Rule.{FoundEmpty}
use Rattle.worker_results.specs.declared.handle.StealHandle.{StealHandle}

-- which deque, and the numbers of the pieces that were pushed to it
pub record FilledDeque : Type 0 where
  pub deque : RowsId × Global
  pub pushed : List ℕ

abbrev pub filled_deque : RowsId × Global → List ℕ → FilledDeque
filled_deque deque pushed = record { deque = deque; pushed = pushed }

-- that of a permit
abbrev pub permit_deque : {D : Type 0} → StealHandle D → FilledDeque
permit_deque handle = filled_deque (stealer_deque handle.thief) (view handle.permit).pushed

-- that of an owner
abbrev pub owner_deque : {T P : Type 0} → Worker T Global Tally P → FilledDeque
owner_deque owner = filled_deque (worker_deque owner) (worker_view owner).pushed

-- the numbers of the pieces that were taken by these permits, weighed and added up
abbrev pub taken_by : {D : Type 0} → (ℕ → ℕ) → List (StealHandle D) → ℕ
taken_by {D} weight handles = sum_by (λ (handle : StealHandle D). sum_by weight (view handle.permit).taken) handles

-- how many pieces were pushed to the deques of these permits
abbrev pub pushed_to : {D : Type 0} → List (StealHandle D) → ℕ
pushed_to {D} handles = sum_by (λ (handle : StealHandle D). length (view handle.permit).pushed) handles

-- how many pieces were pushed to these deques
abbrev pub pushed_count : List FilledDeque → ℕ
pushed_count filled = sum_by (λ (p : FilledDeque). length p.pushed) filled

-- their numbers, weighed and added up
abbrev pub pushed_sum : (ℕ → ℕ) → List FilledDeque → ℕ
pushed_sum weight filled = sum_by (λ (p : FilledDeque). sum_by weight p.pushed) filled

-- a thieves' end of a deque that is first in first out
abbrev pub IsInOrder : {T P : Type 0} → Stealer T Global Tally P → Type 0
IsInOrder thief = stealer_flavor thief ≡ 0

-- the permit at this place belongs to this deque, and nothing was taken by it
pub record IsUnused {D : Type 0} (deque : FilledDeque) (own : ℕ) (handles : List (StealHandle D)) : Type 0 where
  pub stands : get_elem? (map permit_deque handles) own ≡ some deque
  pub none : (handle : StealHandle D) → get_elem? handles own ≡ some handle → (view handle.permit).taken ≡ []

-- each of the first n permits, but the one at the worker's own place, has found its deque empty
abbrev pub FoundAllEmpty : {D : Type 0} → List Piece → ℕ → ℕ → List (StealHandle D) → Type 0
FoundAllEmpty {D} all own n handles =
    (k : ℕ) (d : StealHandle D) → k < n → k ≢ own → FoundEmpty all (view (slice_index_or handles k d).permit)
