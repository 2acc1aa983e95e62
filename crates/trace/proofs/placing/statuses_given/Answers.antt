use Rattle.std.proofs.Common.{None, arith}
use Rattle.std.proofs.lemmas.List.FromFn.{fill_by_all}
use Rattle.manifest.specs.rule.Gates.{most_gates}
use Rattle.trace.specs.rule.Placing.{gate_given}
use Rattle.trace.proofs.placing.statuses_given.Goals as goal

pub returns : goal.returns
returns c = fill_by_all (gate_given c.args.gates.now c.args.statuses.now) c.loop-number.given most_gates None
    c.loop-number.invariant.as_many
    (λ k lt. c.loop-number.invariant.given k (omega (arith, lt, c.loop-number-test.false)))
