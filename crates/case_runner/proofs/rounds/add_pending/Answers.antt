use Rattle.case_runner.proofs.FirstPieces.{one_more}
use Rattle.case_runner.proofs.rounds.add_pending.Goals as goal

pub returns : goal.returns
returns c =
    one_more c.args.number _ _ c.in_ok-piece.piece c.requires c.in_ok-push.ensures.items c.in_ok-piece.ensures.number
    c.in_ok-piece.ensures.pending
