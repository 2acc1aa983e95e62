use Rattle.tick_lines.proofs.tape.entry_text.Goals as goal

pub loop-field-preserved : goal.loop-field-preserved
loop-field-preserved c = c.in_ok-entry.ensures _ _ _ c.in-Some.ensures.value c.loop-field.invariant
