use Rattle.trace.proofs.LawLemmas.Usages as lemmas
use Rattle.trace.proofs.laws.signals_shown.Goals as goal

pub returns : goal.returns
returns c = lemmas.signals_shown
