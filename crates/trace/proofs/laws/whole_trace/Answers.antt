use Rattle.trace.proofs.LawLemmas as lemmas
use Rattle.trace.proofs.laws.whole_trace.Goals as goal

pub returns : goal.returns
returns c = lemmas.whole_trace
