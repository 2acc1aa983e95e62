use Rattle.std.proofs.Common.{◌≡◌, ◌++◌, take}
use Rattle.pod_piece.specs.state.Made.{made_of}
use Rattle.event_list.specs.state.Tick.{events_of}
use Rattle.event_list.proofs.tick.add_earlier_events.Given as goal

abbrev pub invariant-loop-tick : goal.invariant-loop-tick
invariant-loop-tick l =
    l.events.items ≡ l.fn.events.items ++ events_of l.number (made_of (take l.tick-index l.ticks))
