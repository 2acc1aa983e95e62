use Rattle.std.proofs.Common.{◌≡◌, ◌+◌, ◌<◌, ◌≤◌, ℕ, All, map, reverse, take, drop, vec_len, vec_capacity}
use Rattle.std.specs.List.{AllWithin}
use Rattle.crossbeam_deque.specs.Handles.{worker_deque, stealer_deque}
use Rattle.worker_count.specs.rule.Limit.{most_workers}
use Rattle.pool_workers.specs.state.Permits.{owner_deque, permit_deque, taken_by, IsInOrder}
use Rattle.pool_workers.specs.state.Slots.{IsHost, IsRich}
use Rattle.pool_workers.proofs.permits.permit_slot.Given as goal

abbrev pub invariant-loop-thief : goal.invariant-loop-thief
invariant-loop-thief g l = record {
  len : vec_len l.owners ≡ vec_len l.initial.owners;
  filled : map owner_deque l.owners.items ≡ map owner_deque l.initial.owners.items;
  within : vec_len l.thieves ≤ vec_len l.owners;
  room : vec_len l.handles + vec_len l.thieves ≤ vec_capacity l.handles;
  thieves : map stealer_deque l.thieves.items ≡ take (vec_len l.thieves) (map worker_deque l.owners.items);
  in_order : All IsInOrder l.thieves.items;
  permits : reverse (map permit_deque l.handles.items) ≡ drop (vec_len l.thieves) (map owner_deque l.owners.items);
  fresh : (weight : ℕ → ℕ) → taken_by weight l.handles.items ≡ 0;
  rich : AllWithin IsRich l.owners.items 0 (vec_len l.thieves);
  hosts : (n : ℕ) → n < most_workers → All (IsHost n) l.initial.owners.items
      → AllWithin (IsHost n) l.owners.items 0 (vec_len l.thieves)
      × AllWithin (IsHost (n + 1)) l.owners.items (vec_len l.thieves) (vec_len l.owners);
}

abbrev pub decreases-loop-thief : goal.decreases-loop-thief
decreases-loop-thief g l = vec_len l.thieves
