use Rattle.piece_deques.proofs.Moves.{begins}
use Rattle.piece_deques.proofs.deque.open.Goals as goal

pub fifo_as-requires : goal.fifo_as-requires
fifo_as-requires g c = begins _
