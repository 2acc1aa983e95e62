use Rattle.node_signals.specs.rule.Events.{ChangesThreshold}
use Rattle.node_signals.proofs.EventLemmas.{adds_none, adds_next, adds_all}
use Rattle.node_signals.proofs.events.add_threshold_events.Goals as goal

pub loop-place-init : goal.loop-place-init
loop-place-init c = λ eviction before tick old new. adds_none (ChangesThreshold eviction before tick)
    c.args.events.now.items

pub loop-place-preserved : goal.loop-place-preserved
loop-place-preserved c = λ eviction before tick old new.
    adds_next (ChangesThreshold eviction before tick) c.loop-place.place _ _ _ _ c.loop-place-test.true
    (λ key at. c.threshold_event.ensures eviction before tick key at old new) c.in_ok-add.ensures
    (c.loop-place.invariant eviction before tick old new)

pub returns : goal.returns
returns c = λ eviction before tick old new.
    adds_all (ChangesThreshold eviction before tick) c.loop-place.place _ _ c.loop-place-test.false
    (c.loop-place.invariant eviction before tick old new)
