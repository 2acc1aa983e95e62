use Rattle.containers.proofs.EventFoundLemmas as found
use Rattle.containers.proofs.laws.some_list_of_events.Goals as goal

pub returns : goal.returns
returns c = found.some_list_of_events
