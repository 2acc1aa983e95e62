use Rattle.json_lines.proofs.Windows.{window_read}
use Rattle.json_lines.specs.state.Lines.{line_data}
use Rattle.json_lines.proofs.model.window_alone.Goals as goal

pub returns-clause-lines : goal.returns-clause-lines
returns-clause-lines c =
    window_read line_data _ c.in_ok-lines.lines.items _ _ _ c.in_ok-lines.ensures.lines
    (rw c.deref.ensures.value at c.in_ok-lines-2.ensures)
