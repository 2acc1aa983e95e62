use Rattle.std.proofs.Common.{All, ◌++◌, sym, subst, ap, arith}
use Rattle.std.proofs.lemmas.List.Elements.{All-append}
use Rattle.worker_results.specs.state.Gated.{IsFinished}
use Rattle.worker_results.proofs.Numbers.{all_either}
use Rattle.worker_results.proofs.Sums.{sums_both}
use Rattle.worker_results.proofs.worker_result.WorkerResult.merge.Goals as goal

pub invariant_of-self-clause-right : goal.invariant_of-self-clause-right
invariant_of-self-clause-right g c =
    let done = IsFinished g.D.Deal.left g.D.Deal.all in
    subst (All done) (sym c.in-Ok.ensures.items)
    (All-append done c.args.self.now.done.items c.args.other.done.items c.args.self.now.right c.args.other.right)

pub invariant_of-self-clause-right_uncounted : goal.invariant_of-self-clause-right_uncounted
invariant_of-self-clause-right_uncounted g c =
    let done = IsFinished g.D.Deal.left g.D.Deal.all in
    let uncounted = c.args.self.now.uncounted.items in
    let others = c.args.other.uncounted.items in
    let mine = c.args.self.now.right_uncounted in
    subst (All done) (sym c.append-2.ensures.items)
    (all_either done _ (uncounted ++ others) uncounted
    (All-append done uncounted others mine c.args.other.right_uncounted) mine)

pub invariant_of-self-clause-counts : goal.invariant_of-self-clause-counts
invariant_of-self-clause-counts g c =
    sums_both c.args.self.now.done.items c.args.other.done.items _ _ _ _ c.in-Ok.ensures.items
    (ap (λ s. s.totals) c.join.ensures) c.args.self.now.counts c.args.other.counts

pub invariant_of-self-clause-part : goal.invariant_of-self-clause-part
invariant_of-self-clause-part g c =
    let parts = ap (λ s. s.parts) c.join.ensures in
    let mine = c.args.self.now.part in
    omega arith
