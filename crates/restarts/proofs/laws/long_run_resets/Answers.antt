use Rattle.restarts.proofs.LawLemmas.{resets}
use Rattle.restarts.proofs.laws.long_run_resets.Goals as goal

pub returns : goal.returns
returns c = resets
