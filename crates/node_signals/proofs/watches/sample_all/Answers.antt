use Rattle.std.proofs.Common.{◌++◌, ◌∷◌, [], ◌∙◌}
use Rattle.node_signals.proofs.WatchLemmas.{none_sampled, sampled_more, all_made}
use Rattle.node_signals.proofs.watches.sample_all.Goals as goal

pub loop-place-init : goal.loop-place-init
loop-place-init c = λ eviction before w. none_sampled eviction before c.args.tick.now c.args.watches.now w

pub loop-place-preserved : goal.loop-place-preserved
loop-place-preserved c = λ eviction before w.
    sampled_more eviction before c.args.tick.now c.loop-place.place c.loop-place.watches c.key_at.result
    c.watch_at.result c.sampled.result c.milli-value.result
    c.key_at.ensures c.watch_at.ensures (c.milli-value.ensures.value ∙ c.of.ensures) c.sampled.ensures
    (c.loop-place.invariant eviction before w)

pub returns : goal.returns
returns c = λ eviction before w.
    all_made eviction (before ++ c.args.tick.now ∷ []) c.loop-place.place c.loop-place.watches c.loop-place-test.false
    (c.loop-place.invariant eviction before w).made
