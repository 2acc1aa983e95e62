use Rattle.node_pods.specs.state.Steps.{AreNextBelow}
use Rattle.node_pods.proofs.each.are_next.Given as goal

abbrev pub invariant-loop-number : goal.invariant-loop-number
invariant-loop-number l = AreNextBelow l.at l.pieces l.shown l.number
