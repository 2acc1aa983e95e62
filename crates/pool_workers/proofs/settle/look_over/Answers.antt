use Rattle.std.proofs.Common.{◌++◌, ◌∷◌, [], take, sym, ap, ◌∙◌}
use Rattle.std.proofs.lemmas.List.{take_more}
use Rattle.pod_piece.specs.rule.Piece.{Piece}
use Rattle.pool_workers.proofs.Additions.{additions_more}
use Rattle.pool_workers.proofs.settle.look_over.Goals as goal

pub loop-piece-preserved : goal.loop-piece-preserved
loop-piece-preserved c =
    let pieces = c.args.pieces.now in
    let i = c.loop-piece.piece-index in
    let before = c.loop-piece.invariant in
    let piece = c.piece-item.result in
    let addition = c.of_round-addition.result in
    let more =
    take_more pieces i piece c.loop-piece-test.true
    ∙ ap (λ (p : Piece). take i pieces ++ p ∷ []) (sym c.piece-item.is) in (
      before.0 ++ addition ∷ [],
      additions_more (take i pieces) _ before.0 piece addition more before.1 c.of_round-addition.ensures.addition,
    )
