use Rattle.std.proofs.Common.{◌≡◌, None}
use Rattle.crossbeam_deque.specs.Handles.{worker_view}
use Rattle.pool_workers.specs.state.Permits.{FoundAllEmpty}
use Rattle.pool_workers.specs.state.Contexts.{IsSameWorker}
use Rattle.pool_workers.proofs.context.WorkerContext.empty_other.Given as goal

abbrev pub invariant-other : goal.invariant-other
invariant-other g l = record {
  same : IsSameWorker l.initial.self l.self;
  none : l.self.worker_result.refused ≡ None;
  owner : worker_view l.self.owner ≡ worker_view l.initial.self.owner;
  before : FoundAllEmpty g.D.Deal.all l.initial.self.own l.from l.initial.self.handles.items
      → FoundAllEmpty g.D.Deal.all l.initial.self.own l.from l.self.handles.items;
}
