use Rattle.std.proofs.Common.{◌≡◌, length}
use Rattle.pod_piece.specs.state.Piece.{at_rest}
use Rattle.node_pods.specs.state.Steps.{AreChangedBelow}
use Rattle.node_pods.proofs.each.rest_all.Given as goal

abbrev pub invariant-loop-number : goal.invariant-loop-number
invariant-loop-number l = record {
  end : l.number-end ≡ length l.fn.pieces.items;
  changed : AreChangedBelow (λ n p. at_rest p) l.number l.fn.pieces.items l.pieces.items;
}
