use Rattle.event_list.proofs.Chosen.{evicted_as_listed}
use Rattle.event_list.proofs.laws.evicted_as_listed.Goals as goal

pub returns : goal.returns
returns c = evicted_as_listed
