use Rattle.pod_state.proofs.PodEventLemmas as events
use Rattle.pod_state.proofs.laws.no_events_after_the_end.Goals as goal

pub returns : goal.returns
returns c = events.no_events_after_the_end
