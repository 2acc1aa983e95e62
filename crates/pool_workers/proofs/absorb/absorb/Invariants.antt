use Rattle.std.proofs.Common.{◌≡◌, ◌+◌, ℕ, length, map, vec_len}
use Rattle.std.specs.List.{sum_by}
use Rattle.pool_workers.specs.state.Permits.{taken_by}
use Rattle.pool_workers.specs.state.FinishedWorkers.{StandAt, finished_deque, finished_parts, finished_taken}
use Rattle.pool_workers.proofs.absorb.absorb.Given as goal

abbrev pub invariant-loop-handle : goal.invariant-loop-handle
invariant-loop-handle g l = record {
  stand : StandAt l.row.items (map finished_deque l.finished.items);
  filled : map finished_deque l.finished.items ≡ map finished_deque l.initial.finished.items;
  worker_results : map (λ r. r.worker_result) l.finished.items ≡ map (λ r. r.worker_result) l.initial.finished.items;
  parts : sum_by finished_parts l.finished.items + length l.row.items
      ≡ sum_by finished_parts l.initial.finished.items + length l.initial.row.items;
  taken : (weight : ℕ → ℕ) → sum_by (finished_taken weight) l.finished.items + taken_by weight l.row.items
      ≡ sum_by (finished_taken weight) l.initial.finished.items + taken_by weight l.initial.row.items;
}

abbrev pub decreases-loop-handle : goal.decreases-loop-handle
decreases-loop-handle g l = vec_len l.row
