use Rattle.signal_causes.proofs.LastMoments.{one_last_met}
use Rattle.signal_causes.proofs.laws.last_met.Goals as goal

pub returns : goal.returns
returns c = one_last_met
