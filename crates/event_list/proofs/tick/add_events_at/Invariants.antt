use Rattle.std.proofs.Common.{◌≡◌, ◌++◌, map, take}
use Rattle.pod_state.specs.declared.events.PodEvent.{PodEvent}
use Rattle.event_list.specs.declared.event.EventKind.TheVariants.{Pod}
use Rattle.event_list.specs.rule.Events.{event}
use Rattle.event_list.proofs.tick.add_events_at.Given as goal

abbrev pub invariant-loop-event : goal.invariant-loop-event
invariant-loop-event l = l.events.items
    ≡ l.fn.events.items ++ map (λ (e : PodEvent). event l.at (Pod l.number e)) (take l.event-index l.made)
