use Rattle.std.proofs.Common.{◌≡◌, length}
use Rattle.trace.specs.rule.Placing.{has_twice}
use Rattle.trace.proofs.placing.has_twice.Given as goal

abbrev pub invariant-loop-rest : goal.invariant-loop-rest
invariant-loop-rest g l = has_twice g.T.Alike.are_alike l.rest ≡ has_twice g.T.Alike.are_alike l.fn.items

abbrev pub decreases-loop-rest : goal.decreases-loop-rest
decreases-loop-rest g l = length l.rest
