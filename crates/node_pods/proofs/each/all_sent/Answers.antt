use Rattle.node_pods.specs.state.Pods.{sent_from, staying}
use Rattle.node_pods.proofs.Steps.{sent_more, kept_more}
use Rattle.node_pods.proofs.each.all_sent.Goals as goal

pub loop-piece-preserved : goal.loop-piece-preserved
loop-piece-preserved c = record {
  out = sent_more (sent_from 0 c.args.pieces.items) c.loop-piece.out.items c.send_or_keep.new.out.items
      c.loop-piece.piece-iterator.rest.items c.in-Some.piece c.next.new.self.rest.items c.loop-piece.invariant.out
      c.in-Some.ensures.steps.0 c.in_ok-send_or_keep.ensures.out;
  kept = kept_more (staying c.args.pieces.items) c.loop-piece.kept.items c.send_or_keep.new.kept.items
      c.loop-piece.piece-iterator.rest.items c.in-Some.piece c.next.new.self.rest.items c.loop-piece.invariant.kept
      c.in-Some.ensures.steps.0 c.in_ok-send_or_keep.ensures.kept;
}
