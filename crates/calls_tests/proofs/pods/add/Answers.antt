use Rattle.std.proofs.Common.{◌∙◌}
use Rattle.calls_tests.proofs.Pieces.{one_more}
use Rattle.calls_tests.proofs.pods.add.Goals as goal

pub returns : goal.returns
returns c =
    one_more _ _ c.in_ok-piece.piece c.requires c.in_ok-push.ensures.items
    (c.in_ok-piece.ensures.number ∙ c.len.ensures ∙ c.args.pieces.now.ok.0) c.in_ok-piece.ensures.pending
