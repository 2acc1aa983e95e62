use Rattle.event_list.proofs.Adds.{AreAddedBelow}
use Rattle.event_list.proofs.tick.add_events_of_pods.Given as goal

abbrev pub invariant-loop-number : goal.invariant-loop-number
invariant-loop-number l = AreAddedBelow l.pieces l.number l.fn.events.items l.events.items
