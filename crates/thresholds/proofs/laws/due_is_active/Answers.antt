use Rattle.thresholds.proofs.LawLemmas as laws
use Rattle.thresholds.proofs.laws.due_is_active.Goals as goal

pub returns : goal.returns
returns c = laws.due_is_active
