use Rattle.std.proofs.Common.{◌≡◌, true, false, refl, arith}
use Rattle.std.specs.Prelude.{option_map}
use Rattle.node_pods.proofs.Steps.{next_more}
use Rattle.node_pods.proofs.each.are_next.Goals as goal

pub returns-then-not-is_next : goal.returns-then-not-is_next
returns-then-not-is_next c = (
  (λ t. absurd (let w : false ≡ true = t in cc)),
  (λ all.
      let is : c.is_next.result ≡ true = c.is_next.ensures.1
      (all c.loop-number.number c.piece_at.result.now (option_map (λ o. o.now) c.shown_at.result) (omega arith)
      c.piece_at.ensures c.shown_at.ensures) in
      let not : c.is_next.result ≡ false = c.if-not-is_next.true in
      absurd (cc)),
)

pub loop-number-preserved : goal.loop-number-preserved
loop-number-preserved c = next_more c.args.at c.args.pieces.now c.args.shown.now c.loop-number.number
    c.piece_at.result.now (option_map (λ o. o.now) c.shown_at.result) c.piece_at.ensures c.shown_at.ensures
    (c.is_next.ensures.0 c.if-not-is_next.false) c.loop-number.invariant

pub returns : goal.returns
returns c = (
  (λ t n piece observed lt. c.loop-number.invariant n piece observed (omega arith)),
  (λ all. refl),
)
