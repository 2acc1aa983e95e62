use Rattle.std.proofs.Common.{◌≡◌, ◌++◌, take}
use Rattle.event_list.specs.state.Tick.{events_of_node}
use Rattle.event_list.proofs.tick.add_events_of_node.Given as goal

abbrev pub invariant-loop-tick : goal.invariant-loop-tick
invariant-loop-tick l = l.events.items ≡ l.fn.events.items ++ events_of_node (take l.tick-index l.ticks)
