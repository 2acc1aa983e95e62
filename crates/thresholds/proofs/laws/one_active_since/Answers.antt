use Rattle.thresholds.proofs.LawLemmas as laws
use Rattle.thresholds.proofs.laws.one_active_since.Goals as goal

pub returns : goal.returns
returns c = laws.one_active_since
