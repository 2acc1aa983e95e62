-- Pieces that a gate has updated.
use Rattle.std.proofs.Common.{◌≡◌, ℕ, ◌-◌, List, map, length, get_or, All, Bool, true, false, Some, inl, inr}
use Rattle.std.proofs.Common.{sym, ap, ◌∙◌, subst, arith}
use Rattle.std.specs.Prelude.{slice_get, option_map, unwrap_or, Option, IsTrue, Result, Ok, Err, OnOk, is_ok}
use Rattle.std.specs.List.Sorted.{IsPermutation}
use Rattle.std.proofs.lemmas.Bool.{cases_lt}
use Rattle.std.proofs.lemmas.List.{length-map}
use Rattle.std.proofs.lemmas.List.Sorted.{All-permutation}
use Rattle.std.proofs.lemmas.Option.{slice_get-map, slice_get-get_or, get_or_from_slice_get}
use Rattle.pod_piece.specs.rule.Piece.{Piece, updated}
use Rattle.pod_piece.specs.state.Piece.{all_updated}
use Rattle.piece_deques.specs.state.Rule.{IsPieceDue, AreNumbered}
use Rattle.worker_results.specs.state.Done.{IsLeftFrom, waiting_at, with_waiting}
use Rattle.worker_results.specs.state.Gated.{WereGated, AreGated, IsFinished, IsRefused}
use Rattle.worker_results.proofs.Numbers.{done_once, left_of}

-- of one update more
pub gated_more : (left : Piece → Bool → Bool) (waited : ℕ) (old new : Piece) → new ≡ updated old
    → IsTrue (left new true) → WereGated left waited old → WereGated left waited new
gated_more left waited old new is now gated n from before =
    let less : new.waiting ≡ old.waiting - 1 = ap (λ (p : Piece). p.waiting) is in
    elim (cases_lt new.waiting n) [
      | inl later ↦
          subst (λ (p : Piece). IsTrue (left (with_waiting n p) true)) (sym is) (gated n (omega arith) before)
      | inr at ↦
          let same : n ≡ new.waiting = omega arith in
          subst (λ m. IsTrue (left (with_waiting m new) true)) (sym same) now
    ]

-- no other ticks wait for a piece of the round than those with which it was dealt
waited : (all : List Piece) (piece new : Piece) → IsPieceDue all piece → new.number ≡ piece.number
    → waiting_at all new.number ≡ piece.waiting
waited all piece new due same =
    ap (λ n. waiting_at all n) same
    ∙ ap (λ (o : Option Piece). unwrap_or (option_map (λ (p : Piece). p.waiting) o) 0) due.stands

module _ (left given : Piece → Bool → Bool) (all : List Piece) (piece new : Piece) (same : given ≡ left)
    (due : IsPieceDue all piece) where
  -- what is known of the gate is what is known in the round
  pub known : WereGated left piece.waiting new → WereGated given piece.waiting new
  known gated = subst (λ (f : Piece → Bool → Bool). WereGated f piece.waiting new) (sym same) gated

  pub finished : WereGated left piece.waiting new → new ≡ all_updated piece → IsFinished given all new
  finished gated is = record {
    is_done = done_once all piece new due is;
    gated =
        let many = waited all piece new due (ap (λ (p : Piece). p.number) is) in
        subst (λ n. WereGated given n new) (sym many) (known gated);
  }

  pub refused : IsTrue (left new false) → IsLeftFrom piece new → IsRefused given all new
  refused gated is = record {
    is_left = left_of all piece new due is;
    refused = subst (λ (f : Piece → Bool → Bool). IsTrue (f new false)) (sym same) gated;
  }

-- of the piece that an answer speaks of, where it is Ok
pub gated_where_made : {A E : Type 0} (r : Result A E) (made : Bool) (left given : Piece → Bool → Bool) (waited : ℕ)
    (piece new : Piece) → given ≡ left → made ≡ is_ok r → OnOk r (new ≡ all_updated piece) → WereGated left waited new
    → made ≡ true → WereGated given waited (all_updated piece)
gated_where_made (Ok x) made left given waited piece new same is ok gated so =
    subst (λ (p : Piece). WereGated given waited p) ok
    (subst (λ (f : Piece → Bool → Bool). WereGated f waited new) (sym same) gated)
gated_where_made (Err e) made left given waited piece new same is ok gated so =
    absurd (let never : false ≡ true = sym is ∙ so in cc)

-- of each piece that came back, and so of each that was dealt
pub all_gated : (left : Piece → Bool → Bool) (all done pieces : List Piece) → AreNumbered all
    → pieces ≡ map all_updated all → IsPermutation done pieces → All (IsFinished left all) done → AreGated left all
all_gated left all done pieces numbered are perm finished k d in' =
    let piece = get_or all k d in
    let there : slice_get all k ≡ Some piece = slice_get-get_or all k d in' in
    let back = All-permutation (IsFinished left all) done pieces perm finished in
    let long : length pieces ≡ length all = ap (λ (ps : List Piece). length ps) are ∙ length-map all all_updated in
    let mine : IsFinished left all (get_or pieces k d) = back k d (omega (arith, long, in')) in
    let at : slice_get (map all_updated all) k ≡ Some (all_updated piece) =
    slice_get-map all_updated all k ∙ ap (option_map all_updated) there in
    let is : get_or pieces k d ≡ all_updated piece =
    ap (λ (ps : List Piece). get_or ps k d) are
    ∙ get_or_from_slice_get (map all_updated all) k (all_updated piece) d at in
    let own : waiting_at all piece.number ≡ piece.waiting =
    ap (λ n. waiting_at all n) (numbered k piece there)
    ∙ ap (λ (o : Option Piece). unwrap_or (option_map (λ (p : Piece). p.waiting) o) 0) there in
    let f : IsFinished left all (all_updated piece) = subst (IsFinished left all) is mine in
    subst (λ n. WereGated left n (all_updated piece)) own f.gated
