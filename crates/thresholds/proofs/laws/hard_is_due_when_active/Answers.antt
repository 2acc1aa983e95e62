use Rattle.thresholds.proofs.LawLemmas as laws
use Rattle.thresholds.proofs.laws.hard_is_due_when_active.Goals as goal

pub returns : goal.returns
returns c = laws.hard_is_due_when_active
