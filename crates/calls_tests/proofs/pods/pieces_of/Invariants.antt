use Rattle.calls_tests.specs.state.Pods.{ArePending}
use Rattle.calls_tests.proofs.pods.pieces_of.Given as goal

abbrev pub invariant-loop-pod : goal.invariant-loop-pod
invariant-loop-pod l = ArePending l.pieces.items
