use Rattle.std.proofs.Common.{◌≡◌, ◌++◌, take}
use Rattle.event_list.specs.rule.Events.{of_node}
use Rattle.event_list.proofs.tick.add_node_events_at.Given as goal

abbrev pub invariant-loop-event : goal.invariant-loop-event
invariant-loop-event l = l.events.items ≡ l.fn.events.items ++ of_node l.at (take l.event-index l.node_events)
