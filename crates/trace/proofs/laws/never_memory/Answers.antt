use Rattle.trace.proofs.LawLemmas.Kinds as lemmas
use Rattle.trace.proofs.laws.never_memory.Goals as goal

pub returns : goal.returns
returns c = lemmas.never_memory
