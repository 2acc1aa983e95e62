use Rattle.std.proofs.Common.{◌≡◌, ◌++◌}
use Rattle.eviction_order.proofs.ordered.keys_in.Given as goal

abbrev pub invariant-loop-key : goal.invariant-loop-key
invariant-loop-key l = l.keys.items ++ l.key-iterator ≡ l.fn.order.keys
