use Rattle.eviction.proofs.Unique.{one_replay}
use Rattle.eviction.proofs.laws.one_replay.Goals as goal

pub returns : goal.returns
returns c = one_replay
