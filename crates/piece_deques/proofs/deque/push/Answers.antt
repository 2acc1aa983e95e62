use Rattle.std.proofs.Common.{[], ◌∷◌}
use Rattle.std.proofs.lemmas.List.Elements.{All-cons, All-nil}
use Rattle.piece_deques.specs.state.Rule.{IsPieceDue}
use Rattle.piece_deques.proofs.Moves.{pushes}
use Rattle.piece_deques.proofs.deque.push.Goals as goal

pub push_as-requires-clause-pushes : goal.push_as-requires-clause-pushes
push_as-requires-clause-pushes g c =
    let due = IsPieceDue g.D.Deal.all in
    pushes _ _ _ (c.args.piece ∷ []) c.requires.alone (All-cons due c.args.piece [] c.requires.due (All-nil due))
