use Rattle.round_steps.proofs.Cutting.{first_line}
use Rattle.round_steps.proofs.lines.first_line.Goals as goal

pub returns : goal.returns
returns c = first_line c.args.text.now c.cut.result.0.now c.cut.result.1 c.cut.ensures.before c.cut.ensures.whole
