use Rattle.ranking.proofs.LawLemmas as laws
use Rattle.ranking.proofs.laws.one_is_held_after.Goals as goal

pub returns-clause-update : goal.returns-clause-update
returns-clause-update c = laws.one_is_held_after

pub returns-clause-removal : goal.returns-clause-removal
returns-clause-removal c = laws.one_is_held_without
