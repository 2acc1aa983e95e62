use Rattle.std.proofs.Common.{◌≡◌, ◌++◌, drop}
use Rattle.trace.specs.rule.Observed.{pods_from}
use Rattle.trace.proofs.tick.pods_observed.Given as goal

abbrev pub invariant-loop-number : goal.invariant-loop-number
invariant-loop-number l = l.all.items ++ pods_from l.at l.entries l.roster.departures l.number (drop l.number l.pods)
    ≡ pods_from l.at l.entries l.roster.departures 0 l.pods
