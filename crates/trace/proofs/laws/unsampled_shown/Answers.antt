use Rattle.trace.proofs.LawLemmas.Usages as lemmas
use Rattle.trace.proofs.laws.unsampled_shown.Goals as goal

pub returns : goal.returns
returns c = lemmas.unsampled_shown
