-- Pieces in the order of their numbers, each of them once, are the list.
use Rattle.std.proofs.Common.{◌≡◌, ℕ, zero, suc, ◌+◌, ◌-◌, ◌<◌, ◌≤◌, List, [], ◌∷◌, map, length, get_or, All, Some}
use Rattle.std.proofs.Common.{sym, refl, ap, ◌∙◌, subst, arith}
use Rattle.std.specs.Prelude.{slice_get, option_map}
use Rattle.std.specs.List.{sum_by, range_with_len}
use Rattle.std.specs.List.Sorted.{IsNonDecreasing, IsNonDecreasingBy, IsPermutation}
use Rattle.std.proofs.lemmas.List.{length-map}
use Rattle.std.proofs.lemmas.List.Sums.{sum_by-cons}
use Rattle.std.proofs.lemmas.List.Elements.{All-get_or}
use Rattle.std.proofs.lemmas.List.Sorted.{sum_by-IsPermutation, All-permutation}
use Rattle.std.proofs.lemmas.Option.{slice_get-map, slice_get_within, get_or_from_slice_get}
use Rattle.histories.proofs.Lists.{same_places}
use Rattle.pod_piece.specs.rule.Piece.{Piece}
use Rattle.pod_piece.specs.state.Piece.{all_updated}
use Rattle.piece_deques.specs.state.Rule.{number_of, AreNumbered}
use Rattle.piece_deques.proofs.Lists.{ones, sum_map}
use Rattle.worker_results.specs.state.Done.{IsDone, weigh}

-- Numbers

none_below : (x : ℕ) (ys : List ℕ) → ((k d : ℕ) → k < length ys → x ≤ get_or ys k d) → sum_by (λ y. x - y) ys ≡ 0
none_below x [] above = refl
none_below x (y ∷ ys) above =
    let rest = none_below x ys (λ k d in'. above (suc k) d (omega arith)) in
    let here : x ≤ y = above 0 0 (omega arith) in
    omega (arith, sum_by-cons (λ (z : ℕ). x - z) y ys)

none_before : (a b n : ℕ) → a ≤ b → sum_by (λ y. a - y) (range_with_len b n) ≡ 0
none_before a b zero le = refl
none_before a b (suc n) le =
    let rest = none_before a (b + 1) n (omega arith) in
    omega (arith, sum_by-cons (λ (z : ℕ). a - z) b (range_with_len (b + 1) n))

-- numbers that don't fall and add up, however they are weighed, to what those of a range do are the range
in_order : (ns : List ℕ) (a n : ℕ) → IsNonDecreasing ns
    → ((weight : ℕ → ℕ) → sum_by weight ns ≡ sum_by weight (range_with_len a n)) → ns ≡ range_with_len a n
in_order [] a zero up same = refl
in_order [] a (suc n) up same =
    absurd (let e = same (λ _. 1) in omega (arith, sum_by-cons (λ (_ : ℕ). 1) a (range_with_len (a + 1) n)))
in_order (x ∷ xs) a zero up same =
    absurd (let e = same (λ _. 1) in omega (arith, sum_by-cons (λ (_ : ℕ). 1) x xs))
in_order (x ∷ xs) a (suc n) up same =
    let low : x ≤ a = (
    let e = same (λ y. x - y) in
    let z = none_below x (x ∷ xs) (λ k d in'. up 0 k d (omega arith) in') in
    omega (arith, sum_by-cons (λ (y : ℕ). x - y) a (range_with_len (a + 1) n))) in
    let high : a ≤ x = (
    let e = same (λ y. a - y) in
    let z = none_before a a (suc n) (omega arith) in
    omega (arith, sum_by-cons (λ (y : ℕ). a - y) x xs)) in
    let first : x ≡ a = omega arith in
    let rest : xs ≡ range_with_len (a + 1) n =
    in_order xs (a + 1) n (λ i j d le in'. up (suc i) (suc j) d (omega arith) (omega arith))
    (λ h.
    let e = same h in
    let s = sum_by-cons h x xs in
    let t = sum_by-cons h a (range_with_len (a + 1) n) in
    let f : h x ≡ h a = ap h first in
    omega arith) in
    λ k. first k ∷ rest k

at_range : (a n k m : ℕ) → slice_get (range_with_len a n) k ≡ Some m → m ≡ a + k
at_range a zero k m e = absurd (cc)
at_range a (suc n) zero m e = let s : a ≡ m = cc in omega arith
at_range a (suc n) (suc k) m e = let rest = at_range (a + 1) n k m e in omega arith

-- Pieces

numbers_are : (a : ℕ) (pieces : List Piece)
    → ((n : ℕ) (piece : Piece) → slice_get pieces n ≡ Some piece → piece.number ≡ a + n)
    → map number_of pieces ≡ range_with_len a (length pieces)
numbers_are a [] numbered = refl
numbers_are a (p ∷ ps) numbered =
    let first : p.number ≡ a = let e = numbered 0 p refl in omega arith in
    let rest = numbers_are (a + 1) ps (λ n piece at. let e = numbered (suc n) piece at in omega arith) in
    λ k. first k ∷ rest k

get_map : (xs : List Piece) (k d : ℕ) (e : Piece) → k < length xs
    → get_or (map number_of xs) k d ≡ (get_or xs k e).number
get_map [] k d e in' = absurd (omega arith)
get_map (x ∷ xs) zero d e in' = refl
get_map (x ∷ xs) (suc k) d e in' = get_map xs k d e (omega arith)

numbers_up : (xs : List Piece) (e : Piece) → IsNonDecreasingBy number_of xs → IsNonDecreasing (map number_of xs)
numbers_up xs e up i j d le in' =
    let l = length-map xs number_of in
    let a = get_map xs i d e (omega arith) in
    let b = get_map xs j d e (omega arith) in
    let c = up i j e le (omega arith) in
    omega arith

nonempty : (xs : List Piece) → IsNonDecreasingBy number_of xs → IsNonDecreasing (map number_of xs)
nonempty [] up = λ i j d le in'. absurd (omega arith)
nonempty (x ∷ xs) up = numbers_up (x ∷ xs) x up

module _ (all xs : List Piece) (numbered : AreNumbered all) (right : All (IsDone all) xs)
    (same : (weight : ℕ → ℕ) → weigh weight xs ≡ weigh weight all) (up : IsNonDecreasingBy number_of xs) where
  of_range : map number_of xs ≡ range_with_len 0 (length all)
  of_range =
      in_order (map number_of xs) 0 (length all) (nonempty xs up)
      (λ h.
      sum_map number_of h xs
      ∙ (same h
      ∙ (sym (sum_map number_of h all)
      ∙ ap (sum_by h) (numbers_are 0 all (λ n p at. let e = numbered n p at in omega arith)))))

  long : length xs ≡ length all
  long = sym (ones xs) ∙ (same (λ _. 1) ∙ ones all)

  -- the number of each is its place
  its_place : (n : ℕ) (x : Piece) → slice_get xs n ≡ Some x → x.number ≡ n
  its_place n x at =
      let there : slice_get (map number_of xs) n ≡ Some x.number =
      slice_get-map number_of xs n ∙ ap (option_map number_of) at in
      at_range 0 (length all) n x.number (subst (λ (l : List ℕ). slice_get l n ≡ Some x.number) of_range there)
      ∙ omega arith

  is_done : (n : ℕ) (x : Piece) → slice_get xs n ≡ Some x → slice_get (map all_updated all) n ≡ Some x
  is_done n x at =
      let mine : IsDone all x =
      subst (IsDone all) (get_or_from_slice_get xs n x x at)
      (All-get_or (IsDone all) xs n x (slice_get_within xs n x at) right) in
      subst (λ (k : ℕ). slice_get (map all_updated all) k ≡ Some x) (its_place n x at) mine

  pub placed : xs ≡ map all_updated all
  placed =
      same_places xs (map all_updated all) (long ∙ sym (length-map all all_updated))
      (λ n x y here there. let mine = is_done n x here in cc)

-- the same of a list that was sorted
pub placed_sorted : (all xs ys : List Piece) → AreNumbered all → All (IsDone all) xs
    → ((weight : ℕ → ℕ) → weigh weight xs ≡ weigh weight all) → IsPermutation xs ys → IsNonDecreasingBy number_of ys
    → ys ≡ map all_updated all
placed_sorted all xs ys numbered right same perm up =
    placed all ys numbered (All-permutation (IsDone all) xs ys perm right)
    (λ h. sum_by-IsPermutation (λ (p : Piece). h p.number) xs ys perm ∙ same h) up
