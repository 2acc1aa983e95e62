use Rattle.json_fields.specs.state.Tape.{data_at}
use Rattle.tick_lines.proofs.Members.{result_whole}
use Rattle.tick_lines.proofs.tape.result_text.Goals as goal

pub loop-field-preserved : goal.loop-field-preserved
loop-field-preserved c = c.in_ok-read.ensures _ _ _ c.in-Some.ensures.value c.loop-field.invariant

pub returns : goal.returns
returns c =
    result_whole (data_at c.args.value.now) c.loop-field.members c.loop-field.read c.in_ok-read-2.field-0
    c.in_ok-read-3.field-0 c.in_ok-read-4.field-0 c.loop-field.invariant c.in_default.ensures.value c.in_ok-read-2.was
    c.in_ok-read-3.was c.in_ok-read-4.was
