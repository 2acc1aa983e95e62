-- What ticks and events add up to.
use Rattle.std.specs.Prelude.{List, length, Option, Some, None}
use Rattle.std.specs.List.{filter, filter_map, sum_by}
use Rattle.observations.specs.declared.tick.TickObs.{TickObs}
use Rattle.observations.specs.rule.Observations.{all_shown}
use Rattle.pod_state.specs.declared.events.PodEvent.{PodEvent}
use Rattle.totals.specs.declared.totals.Totals.{Totals}
use Rattle.totals.specs.rule.Totals.{is_order}
use Rattle.event_list.specs.declared.event.Event.{Event}
use Rattle.event_list.specs.declared.event.EventKind.{EventKind}
use Rattle.event_list.specs.declared.event.EventKind.TheVariants.{Pod, Node, Evicted, Named}

-- the event of a pod that an event is
abbrev pub pod_event_in : EventKind → Option PodEvent
pod_event_in (Pod n e) = Some e
pod_event_in (Node e) = None
pod_event_in (Evicted eviction) = None
pod_event_in (Named choice) = None

-- the events of pods and containers among these
abbrev pub pod_events : List Event → List PodEvent
pod_events events = filter_map (λ (e : Event). pod_event_in e.kind) events

-- the totals of ticks with these events: an update for each pod that a tick shows, the events of pods,
-- and the orders among them
abbrev pub totals_of : List TickObs → List Event → Totals
totals_of ticks events = record {
  updates = sum_by (λ (tick : TickObs). length (all_shown tick)) ticks;
  events = length (pod_events events);
  orders = length (filter is_order (pod_events events));
}
