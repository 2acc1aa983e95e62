use Rattle.json_fields.specs.state.Tape.{data_at}
use Rattle.tick_lines.proofs.Members.{usage_whole}
use Rattle.tick_lines.proofs.tape.usage_in.Goals as goal

pub loop-field-preserved : goal.loop-field-preserved
loop-field-preserved c = c.in_ok-usage.ensures _ _ _ c.in-Some.ensures.value c.loop-field.invariant

pub returns : goal.returns
returns c =
    usage_whole (data_at c.args.value.now) c.loop-field.members c.loop-field.usage c.loop-field.invariant
    c.in_default.ensures.value c.in_ok-members.ensures.object
