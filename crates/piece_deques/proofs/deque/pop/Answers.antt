use Rattle.piece_deques.proofs.Moves.{takes, finds, found, some_due}
use Rattle.piece_deques.proofs.deque.pop.Goals as goal

pub pop_as-requires-clause-fifo : goal.pop_as-requires-clause-fifo
pop_as-requires-clause-fifo g c = λ _. takes _ _ _ 1 c.requires.some

pub pop_as-requires-clause-empty : goal.pop_as-requires-clause-empty
pop_as-requires-clause-empty g c = λ views d at. (finds _ _ _ c.requires.some views d at, found _ _ _ views d at)

pub returns-clause-due : goal.returns-clause-due
returns-clause-due g c = some_due _ _ _ _ c.pop_as.result c.pop_as.ensures.rule
