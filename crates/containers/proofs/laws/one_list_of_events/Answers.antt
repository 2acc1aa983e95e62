use Rattle.containers.proofs.LawLemmas as laws
use Rattle.containers.proofs.laws.one_list_of_events.Goals as goal

pub returns : goal.returns
returns c = laws.one_list_of_events
