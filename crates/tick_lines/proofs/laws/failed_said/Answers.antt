use Rattle.tick_lines.proofs.Reasons.{failed_said}
use Rattle.tick_lines.proofs.laws.failed_said.Goals as goal

pub returns : goal.returns
returns c = failed_said
