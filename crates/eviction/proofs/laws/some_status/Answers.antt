use Rattle.eviction.proofs.Statuses.{some_status}
use Rattle.eviction.proofs.laws.some_status.Goals as goal

pub returns : goal.returns
returns c = some_status
