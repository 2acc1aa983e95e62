use Rattle.pod_state.specs.state.Gates.{AreTrueBelow}
use Rattle.pod_state.proofs.gates.GateStatuses.are_true.Given as goal

abbrev pub invariant-loop-gate : goal.invariant-loop-gate
invariant-loop-gate l = AreTrueBelow l.gate l.self.statuses
