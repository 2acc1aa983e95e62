use Rattle.container_causes.proofs.CauseLemmas.{some_startup_success}
use Rattle.container_causes.proofs.laws.startup_success.Goals as goal

pub returns : goal.returns
returns c = some_startup_success
