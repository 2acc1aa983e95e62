use Rattle.std.proofs.Common.{[]}
use Rattle.node_signals.proofs.WatchLemmas.{AreMade}
use Rattle.node_signals.proofs.watches.first_watches.Given as goal

abbrev pub invariant-loop-place : goal.invariant-loop-place
invariant-loop-place l = AreMade l.eviction [] l.place l.watches
