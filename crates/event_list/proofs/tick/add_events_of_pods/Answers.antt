use Rattle.event_list.proofs.Adds.{one_added}
use Rattle.event_list.proofs.tick.add_events_of_pods.Goals as goal

pub loop-number-preserved : goal.loop-number-preserved
loop-number-preserved c =
    let more = c.in_ok-add_events_of_pod.ensures in
    one_added c.args.pieces.now c.loop-number.number c.args.events.now.items c.loop-number.events.items
    c.add_events_of_pod.new.events.items c.piece_at.result.now more.0 c.loop-number.invariant c.piece_at.ensures
    more.1 more.2
