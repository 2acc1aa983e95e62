use Rattle.std.proofs.Common.{All, Option, arith, subst}
use Rattle.std.specs.Option.{option_to_list}
use Rattle.pod_piece.specs.rule.Piece.{Piece}
use Rattle.worker_results.specs.state.Gated.{IsRefused}
use Rattle.worker_results.proofs.worker_result.WorkerResult.complete.Goals as goal

pub returns-clause-err : goal.returns-clause-err
returns-clause-err g c =
    let due = IsRefused g.D.Deal.left g.D.Deal.all in
    let mine = subst (λ (o : Option Piece). All due (option_to_list o)) c.in-Some.is c.args.self.due in
    mine 0 c.in-Some.piece (omega arith)
