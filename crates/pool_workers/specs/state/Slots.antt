-- What a clause promises of owners, and of what is made ready for their workers.
use Rattle.std.specs.Prelude.{◌≡◌, ℕ, ◌+◌, ◌<◌, ◌≤◌, List, [], All, map, vec_capacity}
use Rattle.std.specs.List.{sum_by}
use Rattle.std.specs.Global.{Global}
use Rattle.atomic_blocks.specs.Lent.{RowsId}
use Rattle.crossbeam_deque.specs.Handles.{stealer_deque, worker_deque, worker_view}
use Rattle.crossbeam_deque.specs.declared.handles.Worker.{Worker}
use Rattle.piece_deques.specs.declared.rule.Tally.{Tally}
use Rattle.piece_deques.specs.state.Rule.{all_parts}
use Rattle.piece_deques.specs.state.Ends.{IsOwner, IsOpen, pushed_weight}
use Rattle.pool_workers.specs.state.Permits.{FilledDeque, permit_deque}
use Rattle.pool_workers.specs.declared.slot.WorkerSlot.{WorkerSlot}
use Rattle.pool_workers.specs.declared.slot.DealtSlot.{DealtSlot}
use Rattle.pool_workers.specs.declared.slot.RoundBuffers.{RoundBuffers}

-- an owner of whose deque this many permits are away, and which has taken nothing
pub record IsHost {T P : Type 0} (away : ℕ) (owner : Worker T Global Tally P) : Type 0 where
  pub is_owner : IsOwner owner
  pub parts : (worker_view owner).parts + away ≡ all_parts
  pub none : (worker_view owner).taken ≡ []

-- an owner that can give a permit away and keep a part
abbrev pub IsRich : {T P : Type 0} → Worker T Global Tally P → Type 0
IsRich owner = 1 < (worker_view owner).parts

-- the thieves' ends are of these deques, in their order, and the slot has room for this many pieces
pub record IsSlot {D : Type 0} (room : ℕ) (deques : List (RowsId × Global)) (slot : WorkerSlot D) : Type 0 where
  pub thieves : map stealer_deque slot.thieves.items ≡ deques
  pub room_is : room ≤ vec_capacity slot.done

-- the permits are at these places, in their order, and the slot has room for this many pieces
pub record IsDealtSlot {D : Type 0} (room : ℕ) (filled : List FilledDeque) (dealt_slot : DealtSlot D) : Type 0 where
  pub permits : map permit_deque dealt_slot.handles.items ≡ filled
  pub room_is : room ≤ vec_capacity dealt_slot.done

-- the deques are empty, and all has room for this many pieces
pub record AreBuffers {D U E O : Type 0} {g : _} (pieces : ℕ) (buffers : RoundBuffers D U E O g) : Type 0 where
  pub opened : All (IsOpen pieces 0) buffers.owners.items
  pub none : (weight : ℕ → ℕ) → sum_by (pushed_weight weight) buffers.owners.items ≡ 0
  pub slots : All (IsSlot pieces (map worker_deque buffers.owners.items)) buffers.slots.items
