use Rattle.piece_deques.proofs.Moves.{forks}
use Rattle.piece_deques.proofs.deque.new_permit.Goals as goal

pub another-requires : goal.another-requires
another-requires g c = forks _ _ _ c.requires
