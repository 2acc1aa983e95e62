-- The last items of a list.
use Rattle.std.proofs.Common.{◌≡◌, ◌∙◌, ℕ, zero, suc, ◌+◌, ◌-◌, ◌≤◌, List, [], ◌∷◌, ◌++◌, length, drop, Some}
use Rattle.std.proofs.Common.{ap, length-append, arith}
use Rattle.std.specs.Prelude.{slice_get}
use Rattle.std.proofs.Math.Seq.{drop-append-add}
use Rattle.std.proofs.lemmas.List.{length-drop, drop-append-le}
use Rattle.histories.proofs.Lists.{slice_get-new}
use Rattle.probe_causes.specs.rule.Moments.{last_of}

-- those of a list's end are those of the list
pub last_back : {A : Type 0} (n : ℕ) (front xs : List A) → n ≤ length xs → last_of n (front ++ xs) ≡ last_of n xs
last_back n front xs le =
    let e : length (front ++ xs) - n ≡ length front + (length xs - n) = omega (arith, length-append front xs) in
    ap (λ (k : ℕ). drop k (front ++ xs)) e ∙ drop-append-add front xs (length xs - n)

-- they are as many as asked for
pub last_length : {A : Type 0} (n : ℕ) (xs : List A) → n ≤ length xs → length (last_of n xs) ≡ n
last_length n xs le = let e = length-drop (length xs - n) xs in omega (arith, e)

-- a new item is the last of them
pub last_now : {A : Type 0} (n : ℕ) (xs : List A) (x : A) → 1 ≤ n → n ≤ length xs + 1
    → slice_get (last_of n (xs ++ x ∷ [])) (n - 1) ≡ Some x
last_now {A} n xs x least most =
    let k : ℕ = length (xs ++ x ∷ []) - n in
    let long : length (xs ++ x ∷ []) ≡ length xs + 1 = length-append xs (x ∷ []) in
    let front : List A = drop k xs in
    let e : drop k (xs ++ x ∷ []) ≡ front ++ x ∷ [] = drop-append-le k xs (x ∷ []) (omega (arith, long)) in
    let some : length front ≡ length xs - k = length-drop k xs in
    let place : n - 1 ≡ length front = omega (arith, long, some) in
    rw (e, place) (slice_get-new front x)

-- what is at a place behind the first n
pub drop_at_place : {A : Type 0} (n : ℕ) (xs : List A) (k : ℕ) (x : A) → slice_get (drop n xs) k ≡ Some x
    → slice_get xs (n + k) ≡ Some x
drop_at_place zero xs k x e = rw (plus k) e
  where
    plus : (k : ℕ) → 0 + k ≡ k
    plus k = omega arith
drop_at_place (suc n) [] k x e = absurd (cc)
drop_at_place (suc n) (y ∷ xs) k x e = rw (plus n k) (drop_at_place n xs k x e)
  where
    plus : (n k : ℕ) → suc n + k ≡ suc (n + k)
    plus n k = omega arith
