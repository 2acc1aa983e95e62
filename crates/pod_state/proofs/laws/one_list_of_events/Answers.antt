use Rattle.pod_state.proofs.PodEventLemmas as events
use Rattle.pod_state.proofs.laws.one_list_of_events.Goals as goal

pub returns : goal.returns
returns c = events.one_list_of_pod_events
