use Rattle.tick_lines.proofs.Statuses.{conditions_said}
use Rattle.tick_lines.proofs.laws.conditions_said.Goals as goal

pub returns : goal.returns
returns c = conditions_said
