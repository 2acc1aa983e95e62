use Rattle.trace.proofs.LawLemmas.Kinds as lemmas
use Rattle.trace.proofs.laws.kinds_of_checks.Goals as goal

pub returns : goal.returns
returns c = lemmas.kinds_of_checks
