use Rattle.eviction.proofs.Unique.{one_choice}
use Rattle.eviction.proofs.laws.one_choice.Goals as goal

pub returns : goal.returns
returns c = one_choice
