use Rattle.tick_lines.proofs.Texts as lemmas
use Rattle.tick_lines.proofs.laws.texts_said.Goals as goal

pub returns : goal.returns
returns c = lemmas.texts_said
