-- What stands at some of the places of a list.
use Rattle.std.proofs.Common.{◌≡◌, inl, inr, ℕ, suc, ◌<◌, List, [], ◌∷◌, ◌++◌, length, length-append, refl, sym, ap}
use Rattle.std.proofs.Common.{subst, ◌∙◌, arith}
use Rattle.std.specs.Prelude.{◌↔◌, map}
use Rattle.std.proofs.lemmas.List.{take-append-le, map-append}
use Rattle.histories.specs.rule.Histories.{Recorded, up_to, HoldsAt}
use Rattle.histories.specs.rule.Picked.{ArePicked}
use Rattle.histories.proofs.Growth.{grows_so}
use Rattle.histories.proofs.Lists.{map_more}

-- there is at most one list of what is picked
pub picked_one : {A : Type 0} (P : ℕ → Type 0) (xs picked others : List A) → ArePicked P xs picked
    → ArePicked P xs others → picked ≡ others
picked_one P [] picked others p q = p ∙ sym q
picked_one P (x ∷ xs) picked others (inl (here, (rest, p, e))) (inl (here', (rest', q, f))) =
    e ∙ ap (λ ys. x ∷ ys) (picked_one (λ t. P (suc t)) xs rest rest' p q) ∙ sym f
picked_one P (x ∷ xs) picked others (inl (here, w)) (inr (not, q)) = absurd (not here)
picked_one P (x ∷ xs) picked others (inr (not, p)) (inl (here, w)) = absurd (not here)
picked_one P (x ∷ xs) picked others (inr (not, p)) (inr (not', q)) = picked_one (λ t. P (suc t)) xs picked others p q

-- the places count, and nothing else of the predicate
pub picked_same : {A : Type 0} (P Q : ℕ → Type 0) (xs picked : List A) → ((t : ℕ) → t < length xs → (P t ↔ Q t))
    → ArePicked P xs picked → ArePicked Q xs picked
picked_same P Q [] picked same p = p
picked_same P Q (x ∷ xs) picked same (inl (here, (rest, p, e))) =
    inl (
      (same 0 (omega arith)).0 here,
      (rest, picked_same (λ t. P (suc t)) (λ t. Q (suc t)) xs rest (λ t lt. same (suc t) (omega arith)) p, e),
    )
picked_same P Q (x ∷ xs) picked same (inr (not, p)) =
    inr (
      (λ q. not ((same 0 (omega arith)).1 q)),
      picked_same (λ t. P (suc t)) (λ t. Q (suc t)) xs picked
          (λ t lt. same (suc t) (omega arith)) p,
    )

-- nothing is picked where the predicate holds nowhere
pub picked_none : {A : Type 0} (P : ℕ → Type 0) (xs : List A) → ((t : ℕ) → t < length xs → P t → ⊥) → ArePicked P xs []
picked_none P [] none = refl
picked_none P (x ∷ xs) none =
    inr (none 0 (omega arith), picked_none (λ t. P (suc t)) xs (λ t lt. none (suc t) (omega arith)))

-- one more place, which is picked or not
pub picked_in : {A : Type 0} (P : ℕ → Type 0) (xs picked : List A) (x : A) → ArePicked P xs picked → P (length xs)
    → ArePicked P (xs ++ x ∷ []) (picked ++ x ∷ [])
picked_in P [] picked x p here = inl (here, ([], refl, ap (λ ys. ys ++ x ∷ []) p))
picked_in P (y ∷ xs) picked x (inl (first, (rest, p, e))) here =
    inl (first, (rest ++ x ∷ [], picked_in (λ t. P (suc t)) xs rest x p here, ap (λ ys. ys ++ x ∷ []) e))
picked_in P (y ∷ xs) picked x (inr (not, p)) here = inr (not, picked_in (λ t. P (suc t)) xs picked x p here)

pub picked_out : {A : Type 0} (P : ℕ → Type 0) (xs picked : List A) (x : A) → ArePicked P xs picked
    → (P (length xs) → ⊥) → ArePicked P (xs ++ x ∷ []) picked
picked_out P [] picked x p none = inr (none, p)
picked_out P (y ∷ xs) picked x (inl (first, (rest, p, e))) none =
    inl (first, (rest, picked_out (λ t. P (suc t)) xs rest x p none, e))
picked_out P (y ∷ xs) picked x (inr (not, p)) none = inr (not, picked_out (λ t. P (suc t)) xs picked x p none)

-- what is picked of a list begins with what is picked of its beginning
pub picked_front : {A : Type 0} (P : ℕ → Type 0) (xs ys picked : List A) → ArePicked P (xs ++ ys) picked
    → (front : List A) × (back : List A) × (picked ≡ front ++ back) × ArePicked P xs front
picked_front P [] ys picked p = ([], picked, refl, refl)
picked_front P (x ∷ xs) ys picked (inl (here, (rest, p, e))) =
    let w = picked_front (λ t. P (suc t)) xs ys rest p in
    (x ∷ w.0, w.1, e ∙ ap (λ zs. x ∷ zs) w.2, inl (here, (w.0, w.3, refl)))
picked_front P (x ∷ xs) ys picked (inr (not, p)) =
    let w = picked_front (λ t. P (suc t)) xs ys picked p in
    (w.0, w.1, w.2, inr (not, w.3))

-- without its last place, where that is not picked
pub picked_back : {A : Type 0} (P : ℕ → Type 0) (xs picked : List A) (x : A) → ArePicked P (xs ++ x ∷ []) picked
    → (P (length xs) → ⊥) → ArePicked P xs picked
picked_back P [] picked x (inl (here, w)) none = absurd (none here)
picked_back P [] picked x (inr (not, p)) none = p
picked_back P (y ∷ xs) picked x (inl (first, (rest, p, e))) none =
    inl (first, (rest, picked_back (λ t. P (suc t)) xs rest x p none, e))
picked_back P (y ∷ xs) picked x (inr (not, p)) none = inr (not, picked_back (λ t. P (suc t)) xs picked x p none)

map_long : {A B : Type 0} (f : A → B) (h : List A) → length (map f h) ≡ length h
map_long f [] = refl
map_long f (y ∷ h) = ap suc (map_long f h)

so_same : {A : Type 0} (Q : List (Recorded A) → Type 0) (h later : List (Recorded A)) (t : ℕ) → t < length h
    → (HoldsAt Q (h ++ later) t ↔ HoldsAt Q h t)
so_same Q h later t lt =
    let e : up_to (h ++ later) t ≡ up_to h t = take-append-le (suc t) h later (omega arith) in (
      (λ s. record { within = lt; so = subst Q e s.so }),
      (λ s. record { within = omega (arith, length-append h later); so = subst Q (sym e) s.so }),
    )

pub flip : {P Q : Type 0} → (P ↔ Q) → (Q ↔ P)
flip w = (w.1, w.0)

pub so_picked_in : {A B : Type 0} (Q : List (Recorded A) → Type 0) (f : Recorded A → B) (h : List (Recorded A))
    (x : Recorded A) (picked : List B)
    → ArePicked (HoldsAt Q h) (map f h) picked → Q (h ++ x ∷ [])
    → ArePicked (HoldsAt Q (h ++ x ∷ [])) (map f (h ++ x ∷ []))
    (picked ++ f x ∷ [])
so_picked_in {A} {B} Q f h x picked p here =
    let P : ℕ → Type 0 = HoldsAt Q (h ++ x ∷ []) in
    let long : length (map f h) ≡ length h = map_long f h in
    let old : ArePicked P (map f h) picked = picked_same (HoldsAt Q h) P (map f h) picked
    (λ t lt. flip (so_same Q h (x ∷ []) t (omega (arith, long)))) p in
    let new : P (length (map f h)) = subst P (sym long) ((grows_so Q h x).new here) in
    subst (λ (xs : List B). ArePicked P xs (picked ++ f x ∷ [])) (sym (map_more f h x))
    (picked_in P (map f h) picked (f x) old new)

not_new : {A : Type 0} (Q : List (Recorded A) → Type 0) (h : List (Recorded A)) (x : Recorded A)
    → (Q (h ++ x ∷ []) → ⊥) → HoldsAt Q (h ++ x ∷ []) (length h) → ⊥
not_new Q h x none s = elim ((grows_so Q h x).split (length h) s) [
  | inl old ↦ let lt : length h < length h = old.within in absurd (omega arith)
  | inr w ↦ none w.1
]

pub so_picked_out : {A B : Type 0} (Q : List (Recorded A) → Type 0) (f : Recorded A → B) (h : List (Recorded A))
    (x : Recorded A) (picked : List B)
    → ArePicked (HoldsAt Q h) (map f h) picked → (Q (h ++ x ∷ []) → ⊥)
    → ArePicked (HoldsAt Q (h ++ x ∷ [])) (map f (h ++ x ∷ [])) picked
so_picked_out {A} {B} Q f h x picked p none =
    let P : ℕ → Type 0 = HoldsAt Q (h ++ x ∷ []) in
    let long : length (map f h) ≡ length h = map_long f h in
    let old : ArePicked P (map f h) picked = picked_same (HoldsAt Q h) P (map f h) picked
    (λ t lt. flip (so_same Q h (x ∷ []) t (omega (arith, long)))) p in
    subst (λ (xs : List B). ArePicked P xs picked) (sym (map_more f h x))
    (picked_out P (map f h) picked (f x) old (λ s. not_new Q h x none (subst P long s)))

pub so_picked_back : {A B : Type 0} (Q : List (Recorded A) → Type 0) (f : Recorded A → B) (h : List (Recorded A))
    (x : Recorded A) (picked : List B)
    → ArePicked (HoldsAt Q (h ++ x ∷ [])) (map f (h ++ x ∷ [])) picked → (Q (h ++ x ∷ []) → ⊥)
    → ArePicked (HoldsAt Q h) (map f h) picked
so_picked_back {A} {B} Q f h x picked p none =
    let P : ℕ → Type 0 = HoldsAt Q (h ++ x ∷ []) in
    let long : length (map f h) ≡ length h = map_long f h in
    let all : ArePicked P (map f h ++ f x ∷ []) picked = subst (λ (xs : List B). ArePicked P xs picked)
    (map_more f h x) p in
    picked_same P (HoldsAt Q h) (map f h) picked (λ t lt. so_same Q h (x ∷ []) t (omega (arith, long)))
    (picked_back P (map f h) picked (f x) all (λ s. not_new Q h x none (subst P long s)))

pub so_picked_front : {A B : Type 0} (Q : List (Recorded A) → Type 0) (f : Recorded A → B)
    (h later : List (Recorded A)) (picked front : List B)
    → ArePicked (HoldsAt Q (h ++ later)) (map f (h ++ later)) picked → ArePicked (HoldsAt Q h) (map f h) front
    → (back : List B) × (picked ≡ front ++ back)
so_picked_front {A} {B} Q f h later picked front p q =
    let P : ℕ → Type 0 = HoldsAt Q (h ++ later) in
    let long : length (map f h) ≡ length h = map_long f h in
    let all : ArePicked P (map f h ++ map f later) picked = subst (λ (xs : List B). ArePicked P xs picked)
    (map-append f h later) p in
    let w = picked_front P (map f h) (map f later) picked all in
    let mine : ArePicked (HoldsAt Q h) (map f h) w.0 = picked_same P (HoldsAt Q h) (map f h) w.0
    (λ t lt. so_same Q h later t (omega (arith, long))) w.3 in
    (w.1, w.2 ∙ ap (λ zs. zs ++ w.1) (picked_one (HoldsAt Q h) (map f h) w.0 front mine q))
