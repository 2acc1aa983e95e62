use Rattle.node_signals.specs.rule.Thresholds.{Asks}
use Rattle.node_signals.proofs.ServedLemmas.{none_below_first, none_below_next, served_here, none_served, refused}
use Rattle.node_signals.proofs.watches.served.Goals as goal

pub loop-place-init : goal.loop-place-init
loop-place-init c = λ before w. none_below_first (Asks c.args.eviction.now before c.args.tick.now)

pub returns-then-asks : goal.returns-then-asks
returns-then-asks c = λ before w.
    served_here c.args.eviction.now before c.args.tick.now c.loop-place.place c.key_at.result c.key_at.ensures
    ((c.asks.ensures before c.key_at.result c.key_at.ensures w).0 c.if-asks.true) (c.loop-place.invariant before w)

pub loop-place-preserved : goal.loop-place-preserved
loop-place-preserved c = λ before w.
    none_below_next (Asks c.args.eviction.now before c.args.tick.now) c.loop-place.place
    (λ key at. refused (c.asks.ensures before key at w) c.if-asks.false) (c.loop-place.invariant before w)

pub returns : goal.returns
returns c = λ before w.
    none_served c.args.eviction.now before c.args.tick.now c.loop-place.place c.loop-place-test.false
    (c.loop-place.invariant before w)
