use Rattle.std.proofs.Common.{length}
use Rattle.tick_lines.proofs.tape_line.names_only_signals.Given as goal

abbrev pub decreases-loop-name : goal.decreases-loop-name
decreases-loop-name l = length l.members
