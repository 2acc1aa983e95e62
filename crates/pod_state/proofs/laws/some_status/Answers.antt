use Rattle.pod_state.proofs.FoundLemmas as found
use Rattle.pod_state.proofs.laws.some_status.Goals as goal

pub returns : goal.returns
returns c = found.some_status
