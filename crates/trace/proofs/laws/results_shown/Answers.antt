use Rattle.trace.proofs.LawLemmas.Results as lemmas
use Rattle.trace.proofs.laws.results_shown.Goals as goal

pub returns : goal.returns
returns c = lemmas.results_shown
