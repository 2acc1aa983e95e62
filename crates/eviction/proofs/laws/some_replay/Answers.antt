use Rattle.eviction.proofs.Exists.{some_replay}
use Rattle.eviction.proofs.laws.some_replay.Goals as goal

pub returns : goal.returns
returns c = some_replay
