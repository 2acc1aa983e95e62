use Rattle.std.proofs.Common.{length}
use Rattle.json_fields.specs.state.Tape.{data_at}
use Rattle.tick_lines.specs.state.Tape.{LineRead}
use Rattle.tick_lines.proofs.tape_line.line_text.Given as goal

abbrev pub invariant-loop-field : goal.invariant-loop-field
invariant-loop-field l = LineRead (data_at l.value) l.members l.line

abbrev pub decreases-loop-field : goal.decreases-loop-field
decreases-loop-field l = length l.members
