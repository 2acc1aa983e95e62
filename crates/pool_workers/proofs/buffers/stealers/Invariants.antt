use Rattle.std.proofs.Common.{◌≡◌, ◌≤◌, ◌-◌, All, map, take, vec_len, vec_capacity}
use Rattle.crossbeam_deque.specs.Handles.{worker_deque, stealer_deque}
use Rattle.pool_workers.specs.state.Permits.{IsInOrder}
use Rattle.pool_workers.proofs.buffers.stealers.Given as goal

abbrev pub invariant-stealers : goal.invariant-stealers
invariant-stealers g l = record {
  room : vec_len l.owners ≤ vec_capacity l.thieves;
  within : vec_len l.thieves ≤ vec_len l.owners;
  in_order : All IsInOrder l.thieves.items;
  same : map stealer_deque l.thieves.items ≡ take (vec_len l.thieves) (map worker_deque l.owners.items);
}

abbrev pub decreases-stealers : goal.decreases-stealers
decreases-stealers g l = vec_len l.owners - vec_len l.thieves
