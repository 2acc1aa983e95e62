use Rattle.pod_state.proofs.LawLemmas as laws
use Rattle.pod_state.proofs.laws.transitions_are_changes.Goals as goal

pub returns : goal.returns
returns c = laws.transitions_are_changes
