-- What is left of workers, and the rows of their permits.
use Rattle.std.specs.Prelude.{◌≡◌, ℕ, ◌+◌, ◌≤◌, List, None, map, vec_capacity, Vec}
use Rattle.std.specs.List.{sum_by}
use mathlib.Core.Option.{some}
use lib.ListN.{get_elem?}
use Rattle.crossbeam_deque.specs.Handles.{worker_view}
use Rattle.piece_deques.specs.state.Rule.{all_parts}
use Rattle.worker_results.specs.declared.handle.StealHandle.{StealHandle}
use Rattle.worker_results.specs.state.WorkerResults.{kept}
use Rattle.pool_workers.specs.state.Permits.{FilledDeque, permit_deque, owner_deque}
use Rattle.pool_workers.specs.declared.finished_worker.FinishedWorker.{FinishedWorker}

-- the permits of a worker are one of each place, in their order
abbrev pub IsRow : {D A : Type 0} → List FilledDeque → Vec (StealHandle D) A → Type 0
IsRow filled row = map permit_deque row.items ≡ filled

-- each permit belongs to the deque that is at its place in the list
abbrev pub StandAt : {D : Type 0} → List (StealHandle D) → List FilledDeque → Type 0
StandAt {D} row filled =
    (k : ℕ) (handle : StealHandle D) → get_elem? row k ≡ some handle → get_elem? filled k ≡ some (permit_deque handle)

module _ {D U E O : Type 0} {g : _} where
  abbrev pub finished_deque : FinishedWorker D U E O g → FilledDeque
  finished_deque ended = owner_deque ended.owner

  abbrev pub finished_parts : FinishedWorker D U E O g → ℕ
  finished_parts ended = (worker_view ended.owner).parts

  -- the numbers of the pieces that were pushed to the deque, that its owner has taken, and that the worker keeps,
  -- weighed and added up

  abbrev pub finished_pushed : (ℕ → ℕ) → FinishedWorker D U E O g → ℕ
  finished_pushed weight ended = sum_by weight (worker_view ended.owner).pushed

  abbrev pub finished_taken : (ℕ → ℕ) → FinishedWorker D U E O g → ℕ
  finished_taken weight ended = sum_by weight (worker_view ended.owner).taken

  abbrev pub finished_kept : (ℕ → ℕ) → FinishedWorker D U E O g → ℕ
  finished_kept weight ended = kept weight ended.worker_result

  -- this many permits are away, all updates were made, and there is room for this many pieces
  pub record IsAway (away room : ℕ) (ended : FinishedWorker D U E O g) : Type 0 where
    pub parts : finished_parts ended + away ≡ all_parts
    pub none : ended.worker_result.refused ≡ None
    pub share : ended.worker_result.share.parts ≡ 1
    pub room_is : room ≤ vec_capacity ended.worker_result.done
