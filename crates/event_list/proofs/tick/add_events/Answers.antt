use Rattle.std.proofs.Common.{◌∙◌}
use Rattle.event_list.proofs.Ticks.{added_alone, added_sorted}
use Rattle.event_list.proofs.tick.add_events.Goals as goal

pub returns-in_ok-sort_from : goal.returns-in_ok-sort_from
returns-in_ok-sort_from c =
    let pods = c.in_ok-add_events_of_pods.ensures in
    let sorted = c.in_ok-sort_from.ensures in
    added_sorted c.args.ticks.now c.args.pieces.now pods.0 c.args.events.now.items
    c.add_events_of_pods.new.events.items c.add_events_of_node.new.events.items sorted.0 c.sort_from.new.events.items
    c.len-place.result c.requires.rising c.requires.within pods.1 (c.len-place.ensures ∙ c.args.events.now.ok.0)
    pods.2 c.in_ok-add_events_of_node.ensures sorted.1 sorted.2

pub returns-else-ticks-gt1 : goal.returns-else-ticks-gt1
returns-else-ticks-gt1 c =
    let pods = c.in_ok-add_events_of_pods.ensures in
    added_alone c.args.ticks.now c.args.pieces.now pods.0 c.args.events.now.items
    c.add_events_of_pods.new.events.items c.add_events_of_node.new.events.items c.if-ticks-gt1.false
    c.requires.rising c.requires.within pods.1 pods.2 c.in_ok-add_events_of_node.ensures
