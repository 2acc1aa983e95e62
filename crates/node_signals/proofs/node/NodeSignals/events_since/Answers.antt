use Rattle.std.proofs.Common.{List, subst}
use Rattle.node_signals.specs.declared.event.NodeEvent.{NodeEvent}
use Rattle.node_signals.specs.rule.Keys.{serving_order}
use Rattle.node_signals.specs.rule.Events.{ChangesThreshold}
use Rattle.node_signals.specs.state.Events.{Adds}
use Rattle.node_signals.proofs.EventLemmas.{all_events}
use Rattle.node_signals.proofs.node.NodeSignals.events_since.Goals as goal

pub returns : goal.returns
returns c = λ period before old new.
    all_events c.args.eviction.now period before c.args.tick.now _ _ _
    (subst (λ (none : List NodeEvent). Adds (ChangesThreshold c.args.eviction.now before c.args.tick.now)
    serving_order none c.add_threshold_events.new.events.items) c.new-events.ensures.items
    (c.in_ok-add_threshold_events.ensures c.args.eviction.now before c.args.tick.now old.watches new.watches))
    (c.in_ok-add_condition_events.ensures c.args.eviction.now period before c.args.tick.now old.pressures new.pressures)
    (c.in_ok-add_reclaim_events.ensures before new.watches)
