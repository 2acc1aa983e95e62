use Rattle.tick_lines.proofs.Truths as lemmas
use Rattle.tick_lines.proofs.laws.judged_said.Goals as goal

pub returns : goal.returns
returns c = lemmas.judged_said
