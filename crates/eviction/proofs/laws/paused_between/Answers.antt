use Rattle.eviction.proofs.Paused.{paused_between}
use Rattle.eviction.proofs.laws.paused_between.Goals as goal

pub returns : goal.returns
returns c = paused_between
