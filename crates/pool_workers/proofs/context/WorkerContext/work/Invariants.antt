use Rattle.std.proofs.Common.{◌≡◌, None, vec_len}
use Rattle.crossbeam_deque.specs.Handles.{worker_view}
use Rattle.piece_deques.specs.state.Rule.{FoundEmpty}
use Rattle.pool_workers.specs.state.Permits.{FoundAllEmpty}
use Rattle.pool_workers.specs.state.Contexts.{context_tag}
use Rattle.pool_workers.proofs.context.WorkerContext.work.Given as goal

abbrev pub invariant-others : goal.invariant-others
invariant-others g l = record {
  same : context_tag l.self ≡ context_tag l.initial.self;
  none : l.self.worker_result.refused ≡ None;
  count : l.from-end ≡ vec_len l.self.handles;
  found : FoundEmpty g.D.Deal.all (worker_view l.self.owner);
  others : FoundAllEmpty g.D.Deal.all l.self.own l.from l.self.handles.items;
}
