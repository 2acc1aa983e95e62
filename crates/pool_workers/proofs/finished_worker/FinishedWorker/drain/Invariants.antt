use Rattle.std.proofs.Common.{◌≡◌, ◌+◌, ℕ, None, vec_capacity}
use Rattle.std.specs.List.{sum_by}
use Rattle.crossbeam_deque.specs.Handles.{worker_view}
use Rattle.piece_deques.specs.state.Rule.{all_parts}
use Rattle.worker_results.specs.state.WorkerResults.{kept}
use Rattle.pool_workers.proofs.finished_worker.FinishedWorker.drain.Given as goal

abbrev pub invariant-loop : goal.invariant-loop
invariant-loop g l = record {
  whole : (worker_view l.self.owner).parts ≡ all_parts;
  none : l.self.worker_result.refused ≡ None;
  pushed : (worker_view l.self.owner).pushed ≡ (worker_view l.initial.self.owner).pushed;
  share : l.self.worker_result.share.parts ≡ l.initial.self.worker_result.share.parts;
  room : vec_capacity l.self.worker_result.done ≡ vec_capacity l.initial.self.worker_result.done;
  kept' : (weight : ℕ → ℕ) → kept weight l.self.worker_result + sum_by weight (worker_view l.initial.self.owner).taken
      ≡ kept weight l.initial.self.worker_result + sum_by weight (worker_view l.self.owner).taken;
}
