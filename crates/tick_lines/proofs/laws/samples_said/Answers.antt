use Rattle.tick_lines.proofs.Quantities as lemmas
use Rattle.tick_lines.proofs.laws.samples_said.Goals as goal

pub returns : goal.returns
returns c = lemmas.samples_said
