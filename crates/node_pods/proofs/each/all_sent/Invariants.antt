use Rattle.std.proofs.Common.{◌≡◌, ◌++◌, length}
use Rattle.node_pods.specs.state.Pods.{sent_from, staying}
use Rattle.node_pods.proofs.each.all_sent.Given as goal

abbrev pub invariant-loop-piece : goal.invariant-loop-piece
invariant-loop-piece l = record {
  out : sent_from 0 l.fn.pieces.items
      ≡ l.out.items ++ sent_from (length l.out.items) l.piece-iterator.rest.items;
  kept : staying l.fn.pieces.items ≡ l.kept.items ++ staying l.piece-iterator.rest.items;
}
