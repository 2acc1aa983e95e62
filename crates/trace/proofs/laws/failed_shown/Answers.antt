use Rattle.trace.proofs.LawLemmas.Usages as lemmas
use Rattle.trace.proofs.laws.failed_shown.Goals as goal

pub returns : goal.returns
returns c = lemmas.failed_shown
