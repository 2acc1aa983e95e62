use Rattle.containers.proofs.LawLemmas as laws
use Rattle.containers.proofs.laws.killed_once.Goals as goal

pub returns : goal.returns
returns c = laws.killed_once
