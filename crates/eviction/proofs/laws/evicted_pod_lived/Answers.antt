use Rattle.eviction.proofs.Evicted.{evicted_pod_lived}
use Rattle.eviction.proofs.laws.evicted_pod_lived.Goals as goal

pub returns : goal.returns
returns c = evicted_pod_lived
