use Rattle.containers.proofs.FoundLemmas as found
use Rattle.containers.proofs.laws.some_status.Goals as goal

pub returns : goal.returns
returns c = found.some_status
