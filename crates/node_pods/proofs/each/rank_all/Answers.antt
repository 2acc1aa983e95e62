use Rattle.std.proofs.Common.{◌≡◌, ◌∙◌, None, length, refl, subst, arith}
use Rattle.node_pods.specs.state.Ranked.{AreHeldBelow}
use Rattle.node_pods.proofs.Candidates.{ranked_more, none_held}
use Rattle.node_pods.proofs.each.rank_all.Goals as goal

pub loop-number-init : goal.loop-number-init
loop-number-init c = record {
  signal = refl;
  dedicated = refl;
  held = λ is. ((λ n. None), is, none_held c.args.pieces.now c.args.moment);
}

pub loop-number-preserved : goal.loop-number-preserved
loop-number-preserved c = record {
  signal = c.rank.ensures.signal ∙ c.loop-number.invariant.signal;
  dedicated = c.rank.ensures.dedicated ∙ c.loop-number.invariant.dedicated;
  held = λ is.
      let i = c.loop-number.number in
      let piece = c.piece_at.result.now in
      let w = c.loop-number.invariant.held is in
      let next = c.in_ok-rank.ensures.held w.0 w.1 in (
        next.0,
        next.1,
        ranked_more c.args.pieces.now c.args.moment i piece w.0 next.0 c.piece_at.ensures
            (c.requires.numbered i piece c.piece_at.ensures) next.2 w.2,
      );
}

pub returns-clause-held : goal.returns-clause-held
returns-clause-held c = λ is.
    let w = c.loop-number.invariant.held is in
    let same : c.loop-number.number ≡ length c.args.pieces.now = omega arith in
    (w.0, w.1, subst (λ i. AreHeldBelow c.args.pieces.now c.args.moment i w.0) same w.2)
