use Rattle.std.proofs.Common.{◌≡◌, ◌+◌, ◌≤◌, ℕ, None, All, length, vec_len, vec_capacity}
use Rattle.std.specs.List.{sum_by}
use Rattle.worker_results.specs.state.Done.{weigh}
use Rattle.worker_results.specs.state.WorkerResults.{kept}
use Rattle.pool_workers.specs.state.FinishedWorkers.{IsAway, finished_kept, finished_pushed, finished_taken}
use Rattle.pool_workers.proofs.collect.collect.Given as goal

abbrev pub invariant-joined : goal.invariant-joined
invariant-joined g l = record {
  whole : All (IsAway 0 (length g.D.Deal.all)) l.left.items;
  none : l.total.refused ≡ None;
  room : length g.D.Deal.all ≤ vec_capacity l.total.done;
  room_uncounted : length g.D.Deal.all ≤ vec_capacity l.total.uncounted;
  parts : l.total.share.parts + vec_len l.left ≡ vec_len l.fn.finished;
  each : (weight : ℕ → ℕ)
      → kept weight l.total + sum_by (finished_kept weight) l.left.items + sum_by (finished_pushed weight) l.left.items
      ≡ weigh weight g.D.Deal.all + sum_by (finished_taken weight) l.left.items;
}

abbrev pub decreases-joined : goal.decreases-joined
decreases-joined g l = vec_len l.left
