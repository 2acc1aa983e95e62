use Rattle.std.proofs.Common.{◌≡◌, ◌+◌, ◌≤◌, ℕ, All, map, vec_len, vec_capacity}
use Rattle.crossbeam_deque.specs.Handles.{worker_deque, stealer_deque}
use Rattle.worker_count.specs.rule.Limit.{most_workers}
use Rattle.pool_workers.specs.state.Permits.{owner_deque}
use Rattle.pool_workers.specs.state.Slots.{IsHost, IsDealtSlot}
use Rattle.pool_workers.proofs.permits.permit_all.Given as goal

abbrev pub invariant-loop-slot : goal.invariant-loop-slot
invariant-loop-slot g l = record {
  owners : vec_len l.owners ≡ vec_len l.initial.owners;
  filled : map owner_deque l.owners.items ≡ map owner_deque l.initial.owners.items;
  hosts : All (IsHost (vec_len l.dealt_slots)) l.owners.items;
  len : vec_len l.dealt_slots + vec_len l.slots ≡ vec_len l.initial.slots;
  few : vec_len l.initial.slots ≤ most_workers;
  room : vec_len l.dealt_slots + vec_len l.slots ≤ vec_capacity l.dealt_slots;
  slots : All (λ slot. map stealer_deque slot.thieves.items ≡ map worker_deque l.owners.items) l.slots.items;
  dealt_slots : (room : ℕ) → All (λ slot. room ≤ vec_capacity slot.done) l.initial.slots.items
      → All (IsDealtSlot room (map owner_deque l.owners.items)) l.dealt_slots.items
      × All (λ slot. room ≤ vec_capacity slot.done) l.slots.items;
}

abbrev pub decreases-loop-slot : goal.decreases-loop-slot
decreases-loop-slot g l = vec_len l.slots
