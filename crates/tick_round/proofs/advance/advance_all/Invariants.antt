use Rattle.std.proofs.Common.{◌+◌, ◌≤◌, length}
use Rattle.tick_round.specs.state.Node.{HasTakenSome}
use Rattle.tick_round.proofs.advance.advance_all.Given as goal

abbrev pub invariant-loop : goal.invariant-loop
invariant-loop g l = record {
  some : HasTakenSome (g.G.Gate.left l.gate) l.fn.ticks.items l.fn.node l.running l.rest.rest.items;
  left : length l.rest.rest.items + l.counter ≤ l.end;
}
