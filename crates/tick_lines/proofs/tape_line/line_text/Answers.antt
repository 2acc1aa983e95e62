use Rattle.tick_lines.proofs.tape_line.line_text.Goals as goal

pub loop-field-preserved : goal.loop-field-preserved
loop-field-preserved c = c.in_ok-line.ensures _ _ _ c.in-Some.ensures.value c.loop-field.invariant
