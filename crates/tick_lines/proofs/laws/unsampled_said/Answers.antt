use Rattle.tick_lines.proofs.Truths as lemmas
use Rattle.tick_lines.proofs.laws.unsampled_said.Goals as goal

pub returns : goal.returns
returns c = lemmas.unsampled_said
