use Rattle.eviction.proofs.Evicted.{evicted_once}
use Rattle.eviction.proofs.laws.evicted_once.Goals as goal

pub returns : goal.returns
returns c = evicted_once
