use Rattle.thresholds.specs.rule.Thresholds.{IsThresholdActive}
use Rattle.node_signals.proofs.WatchLemmas.{watched, unwatched}
use Rattle.node_signals.proofs.watches.is_active.Goals as goal

pub returns-in-Some : goal.returns-in-Some
returns-in-Some c = λ eviction ticks key at w.
    watched IsThresholdActive eviction ticks key c.args.place c.args.watches.now c.watch_at.result c.in-Some.watch
    c.active.result at w c.watch_at.ensures c.in-Some.is c.active.ensures

pub returns-in-None : goal.returns-in-None
returns-in-None c = λ eviction ticks key at w.
    unwatched IsThresholdActive eviction ticks key c.args.place c.args.watches.now c.watch_at.result at w
    c.watch_at.ensures c.in-None.is
