use Rattle.std.proofs.Common.{◌≡◌, Some, sym, subst}
use Rattle.std.specs.List.Sorted.{IsStrictlySortedBy}
use Rattle.ranking.specs.state.Keys.{rank_cmp}
use Rattle.eviction_order.proofs.KeyLists.{in_order, keys_held, same_keys, ascending}
use Rattle.eviction_order.proofs.ordered.in_order.Goals as goal

pub returns : goal.returns
returns c = λ signal dedicated held are.
    in_order signal dedicated (λ n p. held n ≡ Some p) c.in_ok-sorted.sorted.items
    (subst (IsStrictlySortedBy rank_cmp) (sym c.in_ok-sorted.ensures.keys)
    (ascending c.in_ok-order.order c.in_ok-sorted.ensures.ordered))
    (keys_held signal dedicated held c.args.keys.now c.in_ok-sorted.sorted.items are
    (same_keys c.in_ok-order.order c.args.keys.now c.in_ok-sorted.sorted.items c.in_ok-sorted.ensures.keys
    c.in_ok-order.ensures))
