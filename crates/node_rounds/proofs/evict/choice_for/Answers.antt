use Rattle.std.proofs.Common.{List, Some, subst}
use Rattle.pod_piece.specs.rule.Piece.{Piece}
use Rattle.node_rounds.specs.state.Evict.{IsChoiceAt}
use Rattle.node_rounds.proofs.evict.choice_for.Goals as goal

pub returns : goal.returns
returns c =
    rw c.in-Some.is
    (subst (λ (pieces : List Piece).
    IsChoiceAt c.args.config.now pieces c.args.at (Some c.in-Some.key) c.choice_of.result)
    c.pieces.ensures.same c.choice_of.ensures)
