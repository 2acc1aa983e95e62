use Rattle.std.proofs.Common.{[], refl}
use Rattle.node_signals.proofs.WatchLemmas.{none_made, made_more, all_made}
use Rattle.node_signals.proofs.watches.first_watches.Goals as goal

pub loop-place-init : goal.loop-place-init
loop-place-init c = none_made c.args.eviction.now [] _ refl

pub loop-place-preserved : goal.loop-place-preserved
loop-place-preserved c =
    made_more c.args.eviction.now [] c.loop-place.place c.loop-place.watches c.key_at.result c.first_watch.result
    c.key_at.ensures c.first_watch.ensures c.loop-place.invariant

pub returns : goal.returns
returns c = all_made c.args.eviction.now [] c.loop-place.place c.loop-place.watches c.loop-place-test.false
    c.loop-place.invariant
