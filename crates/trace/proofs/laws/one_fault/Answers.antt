use Rattle.trace.proofs.LawLemmas as lemmas
use Rattle.trace.proofs.laws.one_fault.Goals as goal

pub returns : goal.returns
returns c = lemmas.one_fault
