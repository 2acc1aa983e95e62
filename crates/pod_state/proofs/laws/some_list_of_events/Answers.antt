use Rattle.pod_state.proofs.EventFoundLemmas as found
use Rattle.pod_state.proofs.laws.some_list_of_events.Goals as goal

pub returns : goal.returns
returns c = found.some_list_of_events
