use Rattle.event_list.proofs.Unique.{one_list_of_events}
use Rattle.event_list.proofs.laws.one_list_of_events.Goals as goal

pub returns : goal.returns
returns c = one_list_of_events
