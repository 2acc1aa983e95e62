use Rattle.thresholds.proofs.LawLemmas as laws
use Rattle.thresholds.proofs.laws.active_goes_on.Goals as goal

pub returns : goal.returns
returns c = laws.active_goes_on
