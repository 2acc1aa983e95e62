use Rattle.ranking.proofs.LawLemmas as laws
use Rattle.ranking.proofs.Victims as victims
use Rattle.ranking.proofs.laws.one_victim.Goals as goal

pub returns-clause-exists : goal.returns-clause-exists
returns-clause-exists c = victims.some_victim

pub returns-clause-unique : goal.returns-clause-unique
returns-clause-unique c = laws.one_victim
