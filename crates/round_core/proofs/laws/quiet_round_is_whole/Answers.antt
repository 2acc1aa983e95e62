use Rattle.round_core.proofs.Rounds.{finished_once, quiet_totals}
use Rattle.round_core.proofs.laws.quiet_round_is_whole.Goals as goal

pub returns : goal.returns
returns c = record { once = finished_once; totals = quiet_totals }
