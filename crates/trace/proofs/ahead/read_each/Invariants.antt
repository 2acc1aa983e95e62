use Rattle.std.proofs.Common.{take}
use Rattle.trace.specs.state.Ahead.{AreAhead}
use Rattle.trace.proofs.ahead.read_each.Given as goal

abbrev pub invariant-loop-line : goal.invariant-loop-line
invariant-loop-line l = AreAhead l.heeds l.roster (take l.line-index l.lines) l.reads.items
