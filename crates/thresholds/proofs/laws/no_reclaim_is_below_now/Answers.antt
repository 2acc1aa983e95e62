use Rattle.thresholds.proofs.LawLemmas as laws
use Rattle.thresholds.proofs.laws.no_reclaim_is_below_now.Goals as goal

pub returns : goal.returns
returns c = laws.no_reclaim_is_below_now
