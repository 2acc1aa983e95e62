use Rattle.std.proofs.Common.{length}
use Rattle.json_fields.specs.state.Tape.{data_at}
use Rattle.tick_lines.specs.state.Tape.{ResultRead}
use Rattle.tick_lines.proofs.tape.result_text.Given as goal

abbrev pub invariant-loop-field : goal.invariant-loop-field
invariant-loop-field l = ResultRead (data_at l.value) l.members l.read

abbrev pub decreases-loop-field : goal.decreases-loop-field
decreases-loop-field l = length l.members
