use Rattle.std.proofs.Common.{◌≡◌, None}
use Rattle.pool_workers.specs.state.Contexts.{IsSameWorker}
use Rattle.pool_workers.proofs.context.WorkerContext.empty_own.Given as goal

abbrev pub invariant-own : goal.invariant-own
invariant-own g l = record {
  same : IsSameWorker l.initial.self l.self;
  none : l.self.worker_result.refused ≡ None;
}
