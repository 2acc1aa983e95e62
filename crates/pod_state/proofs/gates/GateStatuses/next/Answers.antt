use Rattle.std.proofs.Common.{refl, arith}
use Rattle.pod_state.specs.rule.Pods.{pod_tick}
use Rattle.pod_state.proofs.GateLemmas.{statuses_more}
use Rattle.pod_state.proofs.gates.GateStatuses.next.Goals as goal

pub returns : goal.returns
returns c = λ count h are.
    statuses_more count h (pod_tick c.args.observed.now) c.args.self _ are refl
    (λ gate lt. c.loop-gate.invariant.below gate (omega (arith, lt, c.loop-gate-test.false)))
