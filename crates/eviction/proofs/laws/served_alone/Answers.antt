use Rattle.eviction.proofs.Evicted.{served_alone}
use Rattle.eviction.proofs.laws.served_alone.Goals as goal

pub returns : goal.returns
returns c = served_alone
