use Rattle.std.proofs.Common.{◌≤◌, ◌-◌, All, map, vec_len, vec_capacity}
use Rattle.crossbeam_deque.specs.Handles.{worker_deque}
use Rattle.pool_workers.specs.state.Slots.{IsSlot}
use Rattle.pool_workers.proofs.buffers.make_slots.Given as goal

abbrev pub invariant-made : goal.invariant-made
invariant-made g l = record {
  room : vec_len l.owners ≤ vec_capacity l.slots;
  within : vec_len l.slots ≤ vec_len l.owners;
  slots : All (IsSlot l.room (map worker_deque l.owners.items)) l.slots.items;
}

abbrev pub decreases-made : goal.decreases-made
decreases-made g l = vec_len l.owners - vec_len l.slots
