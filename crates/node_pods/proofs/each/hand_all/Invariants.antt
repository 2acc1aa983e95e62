use Rattle.std.proofs.Common.{◌≡◌, ◌++◌, length}
use Rattle.std.specs.Prelude.{slice_get}
use Rattle.std.specs.Option.{option_flatten}
use Rattle.node_pods.specs.state.Pods.{handed_one}
use Rattle.node_pods.specs.state.Steps.{AreChangedBelow}
use Rattle.node_pods.proofs.each.hand_all.Given as goal

abbrev pub invariant-loop-observed : goal.invariant-loop-observed
invariant-loop-observed l = record {
  place : l.number ≡ length l.yielded;
  rest : l.fn.shown.items ≡ l.yielded ++ l.observed-iterator.rest.items;
  changed : AreChangedBelow (λ n p. handed_one p (option_flatten (slice_get l.fn.shown.items n))) l.number
      l.fn.pieces.items l.pieces.items;
}
