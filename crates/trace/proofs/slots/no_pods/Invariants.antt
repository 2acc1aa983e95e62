use Rattle.std.proofs.Common.{◌≡◌, None, replicate}
use Rattle.trace.proofs.slots.no_pods.Given as goal

abbrev pub invariant-loop : goal.invariant-loop
invariant-loop l = l.all.items ≡ replicate l.counter None
