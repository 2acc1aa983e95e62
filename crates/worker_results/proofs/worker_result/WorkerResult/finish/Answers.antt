use Rattle.worker_results.proofs.Numbers.{on_ok, on_both_err}
use Rattle.worker_results.proofs.Gated.{finished, refused, gated_where_made}
use Rattle.worker_results.proofs.worker_result.WorkerResult.finish.Goals as goal

pub keep-requires-clause-ok : goal.keep-requires-clause-ok
keep-requires-clause-ok g c =
    on_ok c.update_waiting-updated.result _ _
    (finished (g.G.Gate.left c.args.gate.now.gate.now) g.D.Deal.left g.D.Deal.all _ _ c.args.gate.now.known
    c.requires.due c.update_waiting-updated.ensures.gated)
    c.update_waiting-updated.ensures.ok

pub keep-requires-clause-err : goal.keep-requires-clause-err
keep-requires-clause-err g c =
    on_both_err c.update_waiting-updated.result _ _ _
    (refused (g.G.Gate.left c.args.gate.now.gate.now) g.D.Deal.left g.D.Deal.all _ _ c.args.gate.now.known
    c.requires.due)
    c.update_waiting-updated.ensures.refused c.update_waiting-updated.ensures.err

pub returns-clause-gated : goal.returns-clause-gated
returns-clause-gated g c =
    gated_where_made c.update_waiting-updated.result c.keep.result (g.G.Gate.left c.args.gate.now.gate.now)
    g.D.Deal.left c.args.piece.waiting c.args.piece c.update_waiting-updated.new.piece c.args.gate.now.known
    c.keep.ensures.updated c.update_waiting-updated.ensures.ok c.update_waiting-updated.ensures.gated
