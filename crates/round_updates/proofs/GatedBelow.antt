-- Pods that a gate updates one after the other.
use Rattle.std.proofs.Common.{◌≡◌, ◌∙◌, inl, inr, ℕ, ◌+◌, ◌<◌, Bool, List, length, Some, subst, arith}
use Rattle.std.specs.Prelude.{slice_get}
use Rattle.std.proofs.lemmas.Bool.{cases_eq}
use Rattle.std.proofs.lemmas.Option.{slice_get_within}
use Rattle.pod_piece.specs.rule.Piece.{Piece}
use Rattle.pod_piece.specs.state.Piece.{all_updated}
use Rattle.totals.specs.declared.totals.Totals.{Totals}
use Rattle.worker_results.specs.state.Gated.{WereGated, AreGated}
use Rattle.round_updates.specs.state.Update.{IsGatedAt}
use Rattle.round_updates.proofs.Pieces.{all_by}
use Rattle.round_updates.proofs.Updates.{AreUpdatedBelow}

-- of each pod below a number
abbrev pub AreGatedBelow : (Piece → Bool → Bool) → List Piece → ℕ → Type 0
AreGatedBelow left pieces i = (n : ℕ) → n < i → IsGatedAt left pieces n

pub none_gated : (left : Piece → Bool → Bool) (pieces : List Piece) → AreGatedBelow left pieces 0
none_gated left pieces n below = absurd (omega arith)

pub one_gated : (left : Piece → Bool → Bool) (old : List Piece) (before : Totals) (i : ℕ) (now : List Piece)
    (after : Totals) → AreUpdatedBelow old before i now after → AreGatedBelow left old i → IsGatedAt left now i
    → AreGatedBelow left old (i + 1)
one_gated left old before i now after are so_far gated n below piece at = elim (cases_eq n i) [
  | inl same ↦
      let here : slice_get old i ≡ Some piece = subst (λ (k : ℕ). slice_get old k ≡ Some piece) same at in
      gated piece (are.rest i (omega arith) ∙ here)
  | inr apart ↦ so_far n (let not : n ≡ i → ⊥ = apart in omega arith) piece at
]

-- of all of them
pub all_gated : (left : Piece → Bool → Bool) (pieces : List Piece) (i : ℕ) → AreGatedBelow left pieces i
    → i ≡ length pieces → AreGated left pieces
all_gated left pieces i gated end =
    all_by (λ (piece : Piece). WereGated left piece.waiting (all_updated piece)) pieces
    (λ n piece at. gated n (let lt : n < length pieces = slice_get_within pieces n piece at in omega arith) piece at)
