use Rattle.pod_state.specs.rule.Pods.{pod_tick}
use Rattle.pod_state.specs.state.Gates.{AreNextBelow}
use Rattle.pod_state.proofs.gates.GateStatuses.next.Given as goal

abbrev pub invariant-loop-gate : goal.invariant-loop-gate
invariant-loop-gate l = AreNextBelow l.gate (pod_tick l.observed) l.self.statuses l.statuses
