use Rattle.trace.proofs.LawLemmas.Usages as lemmas
use Rattle.trace.proofs.laws.spared_said.Goals as goal

pub returns : goal.returns
returns c = lemmas.spared_said
