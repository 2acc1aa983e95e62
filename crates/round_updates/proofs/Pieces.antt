-- Pieces by their places.
use Rattle.std.proofs.Common.{◌≡◌, ℕ, zero, suc, ◌<◌, List, [], ◌∷◌, length, get_or, Some}
use Rattle.std.proofs.Common.{refl, arith}
use Rattle.std.specs.Prelude.{slice_get}
use Rattle.std.specs.List.{All}
use Rattle.pod_piece.specs.rule.Piece.{Piece}

item_at : (pieces : List Piece) (n : ℕ) (d : Piece) → n < length pieces → slice_get pieces n ≡ Some (get_or pieces n d)
item_at [] n d lt = absurd (omega arith)
item_at (p ∷ pieces) zero d lt = refl
item_at (p ∷ pieces) (suc n) d lt = item_at pieces n d (omega arith)

-- what holds of the piece at each place holds of all
pub all_by : (P : Piece → Type 0) (pieces : List Piece)
    → ((n : ℕ) (piece : Piece) → slice_get pieces n ≡ Some piece → P piece) → All P pieces
all_by P pieces each = λ n d lt. each n (get_or pieces n d) (item_at pieces n d lt)
