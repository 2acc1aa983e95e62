use Rattle.std.proofs.Common.{◌++◌, ◌∷◌, [], map, take, sym, ap, ◌∙◌}
use Rattle.std.proofs.lemmas.List.{take_more}
use Rattle.pod_state.specs.declared.events.PodEvent.{PodEvent}
use Rattle.pod_piece.specs.declared.made.MadeTick.{MadeTick}
use Rattle.event_list.specs.declared.event.EventKind.TheVariants.{Pod}
use Rattle.event_list.specs.rule.Events.{event}
use Rattle.event_list.proofs.Adds.{earlier_more}
use Rattle.event_list.proofs.tick.add_earlier_events.Goals as goal

pub loop-tick-preserved : goal.loop-tick-preserved
loop-tick-preserved c =
    let i = c.loop-tick.tick-index in
    let rows = c.args.ticks.now in
    let row = c.tick-item.result in
    let n = c.args.number in
    let old = c.loop-tick.events.items in
    let more =
    take_more rows i row c.loop-tick-test.true
    ∙ ap (λ (t : MadeTick). take i rows ++ t ∷ []) (sym c.tick-item.is) in
    earlier_more n rows i row c.args.events.now.items old c.add_events_at.new.events.items more c.loop-tick.invariant
    (c.in_ok-add_events_at.ensures
    ∙ ap (λ es. old ++ map (λ (e : PodEvent). event row.at (Pod n e)) es) c.deref.ensures.value)
