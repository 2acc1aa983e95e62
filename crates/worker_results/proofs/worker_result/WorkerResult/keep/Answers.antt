use Rattle.std.proofs.Common.{ap}
use Rattle.piece_deques.proofs.Lists.{grown}
use Rattle.worker_results.specs.state.Gated.{IsFinished}
use Rattle.worker_results.proofs.Numbers.{when_ok}
use Rattle.worker_results.proofs.Sums.{sums_more}
use Rattle.worker_results.proofs.worker_result.WorkerResult.keep.Goals as goal

pub invariant_of-self-clause-right : goal.invariant_of-self-clause-right
invariant_of-self-clause-right g c =
    grown (IsFinished g.D.Deal.left g.D.Deal.all) _ _ _ c.push_reserved.ensures.items c.args.self.now.right
    (when_ok _ _ _ c.in-Ok.is c.requires.ok)

pub invariant_of-self-clause-counts : goal.invariant_of-self-clause-counts
invariant_of-self-clause-counts g c =
    sums_more _ _ _ c.of_round-more.result _ _ c.push_reserved.ensures.items
    (ap (λ s. s.totals) c.in-Ok-entered.ensures.share) c.of_round-more.ensures.addition c.of_round-more.ensures.low
    c.args.self.now.counts

pub invariant_of-self-in-Err-entered-clause-right_uncounted :
    goal.invariant_of-self-in-Err-entered-clause-right_uncounted
invariant_of-self-in-Err-entered-clause-right_uncounted g c =
    grown (IsFinished g.D.Deal.left g.D.Deal.all) _ _ _ c.push_reserved-in-Err-entered.ensures.items
    c.args.self.now.right_uncounted
    (when_ok _ _ _ c.in-Ok.is c.requires.ok)
