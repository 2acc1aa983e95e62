use Rattle.round_steps.proofs.LawLemmas as lemmas
use Rattle.round_steps.proofs.laws.one_spelling.Goals as goal

pub returns : goal.returns
returns c = lemmas.one_spelling
