use Rattle.trace.proofs.LawLemmas.Saying as lemmas
use Rattle.trace.proofs.laws.all_checks.Goals as goal

pub returns : goal.returns
returns c = lemmas.all_checks
