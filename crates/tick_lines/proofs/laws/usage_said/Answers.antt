use Rattle.tick_lines.proofs.Quantities as lemmas
use Rattle.tick_lines.proofs.laws.usage_said.Goals as goal

pub returns : goal.returns
returns c = lemmas.usage_said
