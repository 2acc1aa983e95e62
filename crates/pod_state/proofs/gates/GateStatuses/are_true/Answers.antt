use Rattle.std.proofs.Common.{refl, arith}
use Rattle.std.specs.Prelude.{IsTrue, false}
use Rattle.pod_state.proofs.GateLemmas.{all_true, one_false}
use Rattle.pod_state.proofs.gates.GateStatuses.are_true.Goals as goal

pub returns-then-not-self-gate : goal.returns-then-not-self-gate
returns-then-not-self-gate c = λ pod h are. (
  (λ e. absurd (let e : IsTrue false = e in cc)),
  (λ all. absurd (one_false pod h c.args.self.now c.loop-gate.gate are c.loop-gate-test.true c.if-not-self-gate.true
      all)),
)

pub returns : goal.returns
returns c = λ pod h are. (
  (λ e. all_true pod h c.args.self.now are
      (λ gate lt. c.loop-gate.invariant gate (omega (arith, lt, c.loop-gate-test.false)))),
  (λ all. refl),
)
