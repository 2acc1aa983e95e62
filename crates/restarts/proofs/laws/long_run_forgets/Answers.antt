use Rattle.restarts.proofs.LawLemmas.{forgets}
use Rattle.restarts.proofs.laws.long_run_forgets.Goals as goal

pub returns : goal.returns
returns c = forgets
