use Rattle.node_signals.proofs.LawLemmas.{one_list_of_node_events}
use Rattle.node_signals.proofs.laws.one_list_of_node_events.Goals as goal

pub returns : goal.returns
returns c = one_list_of_node_events
