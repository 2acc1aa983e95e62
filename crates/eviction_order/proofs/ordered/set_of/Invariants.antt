use Rattle.std.proofs.Common.{take}
use Rattle.std.specs.Prelude.{◌↔◌, Contains, IsTrue}
use Rattle.std.specs.BTreeSet.{contains}
use Rattle.ranking.specs.declared.key.RankKey.{RankKey}
use Rattle.ranking.specs.state.Keys.{rank_cmp}
use Rattle.eviction_order.proofs.ordered.set_of.Given as goal

abbrev pub invariant-loop-key : goal.invariant-loop-key
invariant-loop-key l =
    (k : RankKey) → (IsTrue (contains rank_cmp l.order k) ↔ Contains (take l.key-index l.keys) k)
