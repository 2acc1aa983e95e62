use Rattle.std.proofs.Common.{◌≡◌, ◌++◌, drop}
use Rattle.trace.specs.rule.Observed.{containers_from}
use Rattle.trace.proofs.tick.containers_observed.Given as goal

abbrev pub invariant-loop-number : goal.invariant-loop-number
invariant-loop-number l = l.all.items ++ containers_from l.listings l.results l.number (drop l.number l.containers)
    ≡ containers_from l.listings l.results 0 l.containers
