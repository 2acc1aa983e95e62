-- One piece more of a round.
use Rattle.std.proofs.Common.{◌≡◌, ◌∙◌, ℕ, ◌+◌, List, [], ◌∷◌, ◌++◌, length, length-append, sym, ap}
use Rattle.std.specs.Prelude.{◌<◌}
use Rattle.pod_piece.specs.rule.Piece.{Piece}
use Rattle.case_runner.proofs.PendingPieces as pieces
use Rattle.case_runner.specs.state.Round.{AreFirst}

pub one_more : (count : ℕ) (old new : List Piece) (piece : Piece) → AreFirst count old → new ≡ old ++ piece ∷ []
    → piece.number ≡ count → 0 < piece.waiting → AreFirst (count + 1) new
one_more count old new piece are put number pending = record {
  as_many = ap (λ l. length l) put ∙ length-append old (piece ∷ []) ∙ ap (λ n. n + 1) are.as_many;
  are_pending = pieces.one_more old new piece are.are_pending put (number ∙ sym are.as_many) pending;
}
