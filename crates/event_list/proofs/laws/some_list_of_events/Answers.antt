use Rattle.event_list.proofs.Exists.{some_list_of_events}
use Rattle.event_list.proofs.laws.some_list_of_events.Goals as goal

pub returns : goal.returns
returns c = some_list_of_events
