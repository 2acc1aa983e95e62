use Rattle.std.proofs.Common.{◌∙◌, sym, arith}
use Rattle.event_list.proofs.Adds.{no_last, round_added}
use Rattle.event_list.proofs.tick.add_events_of_pod.Goals as goal

pub returns-in_default : goal.returns-in_default
returns-in_default c =
    no_last c.args.piece.now c.args.number c.args.events.now.items (sym c.last_at.ensures ∙ c.in_default.is)

pub returns : goal.returns
returns c =
    let is = c.round_length.ensures.is in
    let some = c.if-round_length-eq0.false in
    round_added c.args.piece.now c.earlier_events.result.now c.events.result.now c.args.number c.in-Some.at
    c.args.events.now.items c.add_earlier_events.new.events.items c.add_events_at.new.events.items
    (sym c.last_at.ensures ∙ c.in-Some.is) (omega (arith, is, some)) c.earlier_events.ensures c.events.ensures
    c.in_ok-add_earlier_events.ensures c.in_ok-add_events_at.ensures
