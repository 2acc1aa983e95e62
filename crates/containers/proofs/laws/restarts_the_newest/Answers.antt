use Rattle.containers.proofs.LawLemmas as laws
use Rattle.containers.proofs.laws.restarts_the_newest.Goals as goal

pub returns : goal.returns
returns c = laws.restarts_the_newest
