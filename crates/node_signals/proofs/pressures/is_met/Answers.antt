use Rattle.node_signals.specs.rule.Conditions.{Meets}
use Rattle.node_signals.proofs.ServedLemmas.{none_below_first, none_below_next, some_met, none_met, refused}
use Rattle.node_signals.proofs.pressures.is_met.Goals as goal

pub loop-place-init : goal.loop-place-init
loop-place-init c = λ eviction ticks w. none_below_first (Meets eviction c.args.condition ticks)

pub returns-then-meets : goal.returns-then-meets
returns-then-meets c = λ eviction ticks w.
    some_met eviction c.args.condition ticks c.loop-place.place c.loop-place-test.true
    (λ key at. (c.meets.ensures eviction ticks key at w).0 c.if-meets.true)

pub loop-place-preserved : goal.loop-place-preserved
loop-place-preserved c = λ eviction ticks w.
    none_below_next (Meets eviction c.args.condition ticks) c.loop-place.place
    (λ key at. refused (c.meets.ensures eviction ticks key at w) c.if-meets.false)
    (c.loop-place.invariant eviction ticks w)

pub returns : goal.returns
returns c = λ eviction ticks w.
    none_met eviction c.args.condition ticks c.loop-place.place c.loop-place-test.false
    (c.loop-place.invariant eviction ticks w)
