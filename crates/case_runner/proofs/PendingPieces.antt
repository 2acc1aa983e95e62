-- One pod more of a round.
use Rattle.std.proofs.Common.{◌≡◌, ◌∙◌, ◌++◌, ◌∷◌, [], List, Some, length, sym, ap, subst, inl, inr}
use Rattle.std.specs.Prelude.{◌<◌, slice_get}
use Rattle.histories.proofs.Lists.{place_split}
use Rattle.pod_piece.specs.rule.Piece.{Piece}
use Rattle.piece_deques.proofs.Lists.{grown}
use Rattle.case_runner.specs.state.Pods.{ArePending}

pub one_more : (old new : List Piece) (piece : Piece) → ArePending old → new ≡ old ++ piece ∷ []
    → piece.number ≡ length old → 0 < piece.waiting → ArePending new
one_more old new piece are put number pending = record {
  pending = grown (λ p. 0 < p.waiting) old new piece put are.pending pending;
  numbered = λ n p at. elim (place_split old piece p n (subst (λ ps. slice_get ps n ≡ Some p) put at)) [
    | inl there ↦ are.numbered n p there
    | inr w ↦ ap (λ q. q.number) (sym w.1) ∙ number ∙ sym w.0
  ];
}
