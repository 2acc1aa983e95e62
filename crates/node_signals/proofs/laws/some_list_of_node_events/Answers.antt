use Rattle.node_signals.proofs.Exists.{some_list_of_node_events}
use Rattle.node_signals.proofs.laws.some_list_of_node_events.Goals as goal

pub returns : goal.returns
returns c = some_list_of_node_events
