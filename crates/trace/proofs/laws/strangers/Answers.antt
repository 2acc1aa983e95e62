use Rattle.trace.proofs.LawLemmas.Strangers as lemmas
use Rattle.trace.proofs.laws.strangers.Goals as goal

pub returns : goal.returns
returns c = lemmas.strangers
