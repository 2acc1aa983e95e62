use Rattle.quantity.proofs.Runs.{number_is_run}
use Rattle.quantity.proofs.laws.number_is_longest_run.Goals as goal

pub returns : goal.returns
returns c = number_is_run
