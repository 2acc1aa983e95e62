use Rattle.state_diff.proofs.Found as found
use Rattle.state_diff.proofs.laws.some_of_each.Goals as goal

pub returns : goal.returns
returns c = found.some_of_each
