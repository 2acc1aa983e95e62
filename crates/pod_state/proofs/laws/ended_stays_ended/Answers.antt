use Rattle.pod_state.proofs.LawLemmas as laws
use Rattle.pod_state.proofs.laws.ended_stays_ended.Goals as goal

pub returns : goal.returns
returns c = laws.ended_stays_ended
