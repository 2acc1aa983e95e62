use Rattle.pool_workers.proofs.Dealing.{dealt_by_remainder}
use Rattle.pod_pool.proofs.laws.dealt_by_remainder.Goals as goal

pub returns : goal.returns
returns c = dealt_by_remainder
