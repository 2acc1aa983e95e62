use Rattle.std.proofs.Common.{◌≡◌, ◌≤◌, ◌-◌, ℕ, All, vec_len, vec_capacity}
use Rattle.std.specs.List.{sum_by}
use Rattle.piece_deques.specs.state.Ends.{IsOpen, pushed_weight}
use Rattle.pool_workers.proofs.buffers.open_all.Given as goal

abbrev pub invariant-opened : goal.invariant-opened
invariant-opened g l = record {
  room : l.workers ≤ vec_capacity l.owners;
  within : vec_len l.owners ≤ l.workers;
  opened : All (IsOpen l.room 0) l.owners.items;
  none : (weight : ℕ → ℕ) → sum_by (pushed_weight weight) l.owners.items ≡ 0;
}

abbrev pub decreases-opened : goal.decreases-opened
decreases-opened g l = l.workers - vec_len l.owners
