use Rattle.std.specs.BTreeSet.{contains}
use Rattle.histories.proofs.Items.{any_default}
use Rattle.ranking.specs.state.Keys.{rank_cmp}
use Rattle.eviction_order.proofs.KeyLists.{set_more}
use Rattle.eviction_order.proofs.ordered.set_of.Goals as goal

pub loop-key-preserved : goal.loop-key-preserved
loop-key-preserved c =
    set_more c.args.keys.now c.loop-key.key-index _ (contains rank_cmp c.loop-key.order)
    (contains rank_cmp c.insert.new.self) c.loop-key-test.true
    (any_default c.args.keys.now c.loop-key.key-index _ _ c.loop-key-test.true) c.loop-key.invariant
    c.in-Ok.ensures.updates.0
