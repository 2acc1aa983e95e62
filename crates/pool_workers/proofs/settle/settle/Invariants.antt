use Rattle.std.proofs.Common.{◌≡◌, ◌+◌, ◌≤◌, ℕ, All, length, vec_len, vec_capacity}
use Rattle.event_book.specs.state.Shares.{most_parts}
use Rattle.worker_results.specs.state.Done.{weigh}
use Rattle.pool_workers.specs.state.Order.{AreAdded}
use Rattle.worker_results.specs.state.Gated.{IsFinished}
use Rattle.pool_workers.proofs.settle.settle.Given as goal

abbrev pub invariant-entered : goal.invariant-entered
invariant-entered g l = record {
  right : All (IsFinished g.D.Deal.left g.D.Deal.all) l.done.items;
  right_uncounted : All (IsFinished g.D.Deal.left g.D.Deal.all) l.uncounted.items;
  each : (weight : ℕ → ℕ) → weigh weight l.done.items + weigh weight l.uncounted.items ≡ weigh weight g.D.Deal.all;
  room : length g.D.Deal.all ≤ vec_capacity l.done;
  whole : l.share.parts ≡ most_parts;
  added : AreAdded l.done.items l.fn.share.totals l.share.totals;
}

abbrev pub decreases-entered : goal.decreases-entered
decreases-entered g l = vec_len l.uncounted
