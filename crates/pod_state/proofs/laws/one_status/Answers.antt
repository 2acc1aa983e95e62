use Rattle.pod_state.proofs.LawLemmas as laws
use Rattle.pod_state.proofs.laws.one_status.Goals as goal

pub returns : goal.returns
returns c = laws.one_status
