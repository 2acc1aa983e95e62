use Rattle.trace.proofs.LawLemmas.Checks as lemmas
use Rattle.trace.proofs.laws.first_check.Goals as goal

pub returns : goal.returns
returns c = lemmas.first_check
