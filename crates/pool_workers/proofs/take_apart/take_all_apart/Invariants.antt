use Rattle.std.proofs.Common.{◌≡◌, ◌+◌, ◌≤◌, ◌++◌, ℕ, All, map, reverse, vec_len, vec_capacity}
use Rattle.std.specs.List.{sum_by}
use Rattle.pool_workers.specs.state.Permits.{pushed_count, taken_by}
use Rattle.pool_workers.specs.state.Contexts.{context_deque, context_tag, IsLaid}
use Rattle.pool_workers.specs.state.FinishedWorkers.{finished_deque, finished_kept, finished_taken, IsAway, IsRow}
use Rattle.pool_workers.proofs.take_apart.take_all_apart.Given as goal

abbrev pub invariant-loop-context : goal.invariant-loop-context
invariant-loop-context g l = record {
  laid : All (λ context. IsLaid (vec_len l.fn.contexts) (map context_deque l.fn.contexts.items) (context_tag context))
      l.left.items;
  len : vec_len l.finished + vec_len l.left ≡ vec_len l.fn.contexts;
  len_rows : vec_len l.rows ≡ vec_len l.finished;
  room : vec_len l.fn.contexts ≤ vec_capacity l.finished;
  room_rows : vec_len l.fn.contexts ≤ vec_capacity l.rows;
  order : map finished_deque l.finished.items ++ reverse (map context_deque l.left.items)
      ≡ map context_deque l.fn.contexts.items;
  finished : All
      (IsAway (vec_len l.fn.contexts) (pushed_count (map context_deque l.fn.contexts.items))) l.finished.items;
  rows : All (IsRow (map context_deque l.fn.contexts.items)) l.rows.items;
  kept : (weight : ℕ → ℕ) → sum_by (finished_kept weight) l.finished.items
      ≡ sum_by (finished_taken weight) l.finished.items + sum_by (λ row. taken_by weight row.items) l.rows.items;
}

abbrev pub decreases-loop-context : goal.decreases-loop-context
decreases-loop-context g l = vec_len l.left
