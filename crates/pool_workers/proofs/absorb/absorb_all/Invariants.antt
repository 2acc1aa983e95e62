use Rattle.std.proofs.Common.{◌≡◌, ◌+◌, ◌*◌, ℕ, All, map, vec_len}
use Rattle.std.specs.List.{sum_by}
use Rattle.pool_workers.specs.state.Permits.{taken_by}
use Rattle.pool_workers.specs.state.FinishedWorkers.{IsRow, finished_deque, finished_parts, finished_taken}
use Rattle.pool_workers.proofs.absorb.absorb_all.Given as goal

abbrev pub invariant-loop-row : goal.invariant-loop-row
invariant-loop-row g l = record {
  rows : All (IsRow (map finished_deque l.initial.finished.items)) l.rows.items;
  filled : map finished_deque l.finished.items ≡ map finished_deque l.initial.finished.items;
  worker_results : map (λ r. r.worker_result) l.finished.items ≡ map (λ r. r.worker_result) l.initial.finished.items;
  parts : sum_by finished_parts l.finished.items + vec_len l.rows * vec_len l.initial.finished
      ≡ sum_by finished_parts l.initial.finished.items + vec_len l.initial.rows * vec_len l.initial.finished;
  taken : (weight : ℕ → ℕ)
      → sum_by (finished_taken weight) l.finished.items + sum_by (λ row. taken_by weight row.items) l.rows.items
      ≡ sum_by (finished_taken weight) l.initial.finished.items
      + sum_by (λ row. taken_by weight row.items) l.initial.rows.items;
}

abbrev pub decreases-loop-row : goal.decreases-loop-row
decreases-loop-row g l = vec_len l.rows
