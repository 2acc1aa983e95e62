use Rattle.std.proofs.Common.{◌≡◌, drop}
use Rattle.trace.specs.rule.Observed.{outcome_in}
use Rattle.trace.proofs.tick.outcome_in.Given as goal

abbrev pub invariant-loop-placed : goal.invariant-loop-placed
invariant-loop-placed l = outcome_in (drop l.placed-index l.results) l.container l.probe ≡ outcome_in l.results
    l.container l.probe
