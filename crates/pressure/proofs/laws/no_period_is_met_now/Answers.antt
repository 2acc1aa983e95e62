use Rattle.pressure.proofs.LawLemmas as laws
use Rattle.pressure.proofs.laws.no_period_is_met_now.Goals as goal

pub returns : goal.returns
returns c = laws.no_period_is_met_now
