use Rattle.round_core.proofs.Rounds.{quiet_after_drain}
use Rattle.round_core.proofs.laws.drain_leaves_quiet.Goals as goal

pub returns : goal.returns
returns c = quiet_after_drain
