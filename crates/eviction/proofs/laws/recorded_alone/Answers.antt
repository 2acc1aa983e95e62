use Rattle.eviction.proofs.Exists.{recorded_alone}
use Rattle.eviction.proofs.laws.recorded_alone.Goals as goal

pub returns : goal.returns
returns c = recorded_alone
