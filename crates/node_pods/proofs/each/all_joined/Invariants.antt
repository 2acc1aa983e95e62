use Rattle.std.proofs.Common.{◌≡◌, ◌++◌, length}
use Rattle.node_pods.specs.state.Pods.{joined_from}
use Rattle.node_pods.proofs.each.all_joined.Given as goal

abbrev pub invariant-loop-place : goal.invariant-loop-place
invariant-loop-place l = record {
  so_far : joined_from 0 l.fn.kept.items l.fn.back.items
      ≡ l.all.items ++ joined_from (length l.all.items) l.place-iterator.rest.items l.back.rest.items;
  can_next : (goal.iterator-loop-place).can_next l.place-iterator;
  finite : (goal.iterator-loop-place).is_finite l.place-iterator;
}
