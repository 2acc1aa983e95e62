use Rattle.trace.proofs.LawLemmas.Usages as lemmas
use Rattle.trace.proofs.laws.judged_shown.Goals as goal

pub returns : goal.returns
returns c = lemmas.judged_shown
