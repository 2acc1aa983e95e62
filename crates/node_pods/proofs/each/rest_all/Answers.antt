use Rattle.std.proofs.Common.{◌∙◌, map, refl, ap, arith}
use Rattle.std.specs.Prelude.{option_map}
use Rattle.std.proofs.lemmas.List.{length-map}
use Rattle.std.proofs.lemmas.Option.{slice_get-map, slice_get_within}
use Rattle.pod_piece.specs.state.Piece.{at_rest}
use Rattle.node_pods.proofs.Steps.{none_changed, one_changed, all_changed}
use Rattle.node_pods.proofs.each.rest_all.Goals as goal

pub loop-number-init : goal.loop-number-init
loop-number-init c = record {
  end = omega (arith, c.len-number-end.ensures, c.args.pieces.now.ok);
  changed = none_changed (λ n p. at_rest p) c.args.pieces.now.items;
}

pub loop-number-preserved : goal.loop-number-preserved
loop-number-preserved c = record {
  end = c.loop-number.invariant.end;
  changed = one_changed (λ n p. at_rest p) at_rest c.loop-number.number c.args.pieces.now.items
      c.loop-number.pieces.items c.rest_at.new.pieces.items (λ p. refl) c.loop-number.invariant.changed
      c.rest_at.ensures;
}

pub returns : goal.returns
returns c =
    let old = c.args.pieces.now.items in
    all_changed (λ n p. at_rest p) c.loop-number.number old c.loop-number.pieces.items (map at_rest old)
    c.loop-number.invariant.changed (length-map old at_rest)
    (λ n p at. slice_get-map at_rest old n ∙ ap (option_map at_rest) at)
    (λ n p le at.
    let lt = slice_get_within old n p at in
    absurd (omega (arith, le, lt, c.loop-number.invariant.end, c.loop-number-test.false)))
