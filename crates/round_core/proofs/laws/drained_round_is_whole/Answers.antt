use Rattle.round_core.proofs.Rounds.{drained_once, drained_totals}
use Rattle.round_core.proofs.laws.drained_round_is_whole.Goals as goal

pub returns : goal.returns
returns c = record { once = drained_once; totals = drained_totals }
