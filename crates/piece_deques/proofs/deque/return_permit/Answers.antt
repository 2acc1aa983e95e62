use Rattle.std.proofs.Common.{arith, ap}
use Rattle.piece_deques.proofs.Moves.{merges, learns}
use Rattle.piece_deques.proofs.deque.return_permit.Goals as goal

pub absorb-requires-clause-rule : goal.absorb-requires-clause-rule
absorb-requires-clause-rule g c = merges _ _ _ _ _ c.requires.some

pub len_as-requires : goal.len_as-requires
len_as-requires g c =
    learns _ _ _ (let some = c.requires.some in let parts = ap (λ v. v.parts) c.absorb.ensures.rule in omega arith)
