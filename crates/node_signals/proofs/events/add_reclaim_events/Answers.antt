use Rattle.node_signals.specs.rule.Events.{Reclaims}
use Rattle.node_signals.proofs.EventLemmas.{adds_none, adds_next, adds_all}
use Rattle.node_signals.proofs.events.add_reclaim_events.Goals as goal

pub loop-place-init : goal.loop-place-init
loop-place-init c = λ before w. adds_none (Reclaims c.args.eviction.now before c.args.tick.now) c.args.events.now.items

pub loop-place-preserved : goal.loop-place-preserved
loop-place-preserved c = λ before w.
    adds_next (Reclaims c.args.eviction.now before c.args.tick.now) c.loop-place.place _ _ _ _ c.loop-place-test.true
    (λ key at. c.reclaim_event.ensures before key at w) c.in_ok-add.ensures
    (c.loop-place.invariant before w)

pub returns : goal.returns
returns c = λ before w.
    adds_all (Reclaims c.args.eviction.now before c.args.tick.now) c.loop-place.place _ _ c.loop-place-test.false
    (c.loop-place.invariant before w)
