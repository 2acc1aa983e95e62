-- Pieces by their numbers.
use Rattle.std.proofs.Common.{◌≡◌, ℕ, ◌+◌, ◌-◌, List, [], ◌∷◌, ◌++◌, map, All, Bool, true, false, cond, Some}
use Rattle.std.proofs.Common.{sym, ap, ◌∙◌, subst, arith}
use Rattle.std.specs.Prelude.{slice_get, option_map, unwrap_or, Option, Result, Ok, Err, OnOk, OnErr}
use Rattle.std.proofs.lemmas.Option.{slice_get-map, same_Some}
use Rattle.pod_piece.specs.rule.Piece.{Piece, updated}
use Rattle.pod_piece.specs.state.Piece.{all_updated}
use Rattle.piece_deques.specs.state.Rule.{IsPieceDue}
use Rattle.piece_deques.proofs.Lists.{sum_grown}
use Rattle.worker_results.specs.state.Done.{IsDone, IsLeftFrom, IsLeftOf, LeftAsDealt, with_waiting, waiting_at, weigh}

-- a piece that was due is done once all its ticks have come
pub done_once : (all : List Piece) (piece new : Piece) → IsPieceDue all piece → new ≡ all_updated piece → IsDone all new
done_once all piece new due is =
    let there : slice_get (map all_updated all) piece.number ≡ Some (all_updated piece) =
    slice_get-map all_updated all piece.number ∙ ap (option_map all_updated) due.stands in
    subst (IsDone all) (sym is) there

-- and is left of its list where not all have
pub left_of : (all : List Piece) (piece new : Piece) → IsPieceDue all piece → IsLeftFrom piece new → IsLeftOf all new
left_of all piece new due left =
    let there : slice_get all new.number ≡ Some piece =
    ap (λ (p : Piece). slice_get all p.number) left.is ∙ due.stands in
    record {
      is = ap (option_map (with_waiting new.waiting)) there ∙ ap Some (sym left.is);
      pending = left.pending;
      fewer =
          let many : waiting_at all new.number ≡ piece.waiting =
          ap (λ (o : Option Piece). unwrap_or (option_map (λ (p : Piece). p.waiting) o) 0) there in
          let fewer = left.fewer in
          omega (arith, many, fewer);
    }

-- a piece with one tick that waits is left as it was
pub left_as_dealt : LeftAsDealt
left_as_dealt all dealt piece left stands one =
    let many : waiting_at all piece.number ≡ dealt.waiting =
    ap (λ (o : Option Piece). unwrap_or (option_map (λ (p : Piece). p.waiting) o) 0) stands in
    let pending = left.pending in
    let fewer = left.fewer in
    let same : Some (with_waiting piece.waiting dealt) ≡ Some piece =
    ap (option_map (with_waiting piece.waiting)) (sym stands) ∙ left.is in
    sym (same_Some (with_waiting piece.waiting dealt) piece same)
    ∙ ap (λ n. with_waiting n dealt) {x = piece.waiting} {y = dealt.waiting} (omega (arith, many, pending, fewer, one))

-- one update more
pub one_more_update : (dealt now new : Piece) → now ≡ with_waiting now.waiting dealt → new ≡ updated now
    → new ≡ with_waiting new.waiting dealt
one_more_update dealt now new is more =
    let waiting : new.waiting ≡ now.waiting - 1 = ap (λ (p : Piece). p.waiting) more in
    more ∙ ap updated is ∙ ap (λ n. with_waiting n dealt) (sym waiting)

-- and none that waits any more
pub none_waits : (dealt now : Piece) → now ≡ with_waiting now.waiting dealt → now.waiting ≡ 0 → now ≡ all_updated dealt
none_waits dealt now is none = is ∙ ap (λ n. with_waiting n dealt) none

pub weigh_more : (weight : ℕ → ℕ) (xs ys : List Piece) (piece : Piece) → ys ≡ xs ++ piece ∷ []
    → weigh weight ys ≡ weigh weight xs + weight piece.number
weigh_more weight xs ys piece put = sum_grown (λ (p : Piece). weight p.number) xs ys piece put

-- what holds of the pieces of two lists holds of those of either
pub all_either : (P : Piece → Type 0) (first : Bool) (xs ys : List Piece) → All P xs → All P ys
    → All P (cond first xs ys)
all_either P true xs ys all others = all
all_either P false xs ys all others = others

-- what holds where an answer is Ok

pub on_ok : {A E : Type 0} (r : Result A E) (P Q : Type 0) → (P → Q) → OnOk r P → OnOk r Q
on_ok (Ok x) P Q more holds = more holds
on_ok (Err e) P Q more holds = tt

pub when_ok : {A E : Type 0} (r : Result A E) (x : A) (P : Type 0) → r ≡ Ok x → OnOk r P → P
when_ok {A} {E} r x P is holds = subst (λ (q : Result A E). OnOk q P) is holds

pub on_both_err : {A E : Type 0} (r : Result A E) (P Q R : Type 0) → (P → Q → R) → OnErr r P → OnErr r Q → OnErr r R
on_both_err (Ok x) P Q R more first second = tt
on_both_err (Err e) P Q R more first second = more first second

pub on_err : {A E : Type 0} (r : Result A E) (P Q : Type 0) → (P → Q) → OnErr r P → OnErr r Q
on_err (Ok x) P Q more holds = tt
on_err (Err e) P Q more holds = more holds
