use Rattle.std.proofs.Common.{◌≤◌}
use Rattle.node_rounds.proofs.stretch.count_present.Given as goal

abbrev pub invariant-loop-pod : goal.invariant-loop-pod
invariant-loop-pod l = record { few : l.count ≤ l.pod-index }
