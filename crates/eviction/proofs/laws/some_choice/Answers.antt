use Rattle.eviction.proofs.Exists.{some_choice}
use Rattle.eviction.proofs.laws.some_choice.Goals as goal

pub returns : goal.returns
returns c = some_choice
