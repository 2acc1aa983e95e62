-- Lists of attempts that rise, and what they contain.
use Rattle.std.proofs.Common.{◌≡◌, ◌⊎◌, inl, inr, ℕ, zero, suc, ◌<◌, List, [], ◌∷◌, ◌++◌, Some, refl, subst, ap, ◌∙◌}
use Rattle.std.proofs.Common.{arith}
use Rattle.std.specs.Prelude.{◌↔◌, Contains, slice_get}
use Rattle.std.proofs.lemmas.Bool.{cases_order}
use Rattle.containers.specs.rule.Exits.{IsRisingList}

pub contains_nothing : (b : ℕ) → Contains [] b → ⊥
contains_nothing b (k, lt, e) = omega arith

pub contains_here : (x : ℕ) (xs : List ℕ) → Contains (x ∷ xs) x
contains_here x xs = (0, omega arith, refl)

pub contains_there : (x b : ℕ) (xs : List ℕ) → Contains xs b → Contains (x ∷ xs) b
contains_there x b xs (k, lt, e) = (suc k, omega arith, e)

pub contains_split : (x b : ℕ) (xs : List ℕ) → Contains (x ∷ xs) b → (x ≡ b) ⊎ Contains xs b
contains_split x b xs (zero, lt, e) = inl e
contains_split x b xs (suc k, lt, e) = inr (k, omega arith, e)

pub contains_old : (xs : List ℕ) (a b : ℕ) → Contains xs b → Contains (xs ++ a ∷ []) b
contains_old [] a b c = absurd (contains_nothing b c)
contains_old (x ∷ xs) a b c = elim (contains_split x b xs c) [
  | inl e ↦ let P : ℕ → Type 0 = λ y. Contains (x ∷ (xs ++ a ∷ [])) y in subst P e (contains_here x (xs ++ a ∷ []))
  | inr c ↦ contains_there x b (xs ++ a ∷ []) (contains_old xs a b c)
]

pub contains_new : (xs : List ℕ) (a : ℕ) → Contains (xs ++ a ∷ []) a
contains_new [] a = contains_here a []
contains_new (x ∷ xs) a = contains_there x a (xs ++ a ∷ []) (contains_new xs a)

pub contains_cases : (xs : List ℕ) (a b : ℕ) → Contains (xs ++ a ∷ []) b → Contains xs b ⊎ (a ≡ b)
contains_cases [] a b c = elim (contains_split a b [] c) [ inl e ↦ inr e | inr c ↦ inl c ]
contains_cases (x ∷ xs) a b c = elim (contains_split x b (xs ++ a ∷ []) c) [
  | inl e ↦ inl (let P : ℕ → Type 0 = λ y. Contains (x ∷ xs) y in subst P e (contains_here x xs))
  | inr c ↦ elim (contains_cases xs a b c) [ inl c ↦ inl (contains_there x b xs c) | inr e ↦ inr e ]
]

pub get_contains : (xs : List ℕ) (i b : ℕ) → slice_get xs i ≡ Some b → Contains xs b
get_contains [] i b e = absurd (cc)
get_contains (x ∷ xs) zero b e = let same : x ≡ b = cc in let P : ℕ → Type 0 = λ y. Contains (x ∷ xs) y in
    subst P same (contains_here x xs)
get_contains (x ∷ xs) (suc i) b e = contains_there x b xs (get_contains xs i b e)

pub contains_get : (xs : List ℕ) (b : ℕ) → Contains xs b → (i : ℕ) × (slice_get xs i ≡ Some b)
contains_get [] b c = absurd (contains_nothing b c)
contains_get (x ∷ xs) b c = elim (contains_split x b xs c) [
  | inl e ↦ (0, ap (λ y. Some y) e)
  | inr c ↦ let w = contains_get xs b c in (suc w.0, w.1)
]

-- the first of a rising list is below all others, which rise too
pub rising_head : (x : ℕ) (xs : List ℕ) (b : ℕ) → IsRisingList (x ∷ xs) → Contains xs b → x < b
rising_head x xs b r c = let w = contains_get xs b c in r 0 (suc w.0) x b (omega arith) refl w.1

pub rising_tail : (x : ℕ) (xs : List ℕ) → IsRisingList (x ∷ xs) → IsRisingList xs
rising_tail x xs r i j a b lt e f = r (suc i) (suc j) a b (omega arith) e f

pub rising_made : (x : ℕ) (xs : List ℕ) → ((b : ℕ) → Contains xs b → x < b) → IsRisingList xs → IsRisingList (x ∷ xs)
rising_made x xs above r zero zero a b lt e f = absurd (omega arith)
rising_made x xs above r zero (suc j) a b lt e f = let same : x ≡ a = cc in let less : x < b =
    above b (get_contains xs j b f) in omega arith
rising_made x xs above r (suc i) zero a b lt e f = absurd (omega arith)
rising_made x xs above r (suc i) (suc j) a b lt e f = r i j a b (omega arith) e f

-- a greater one at the end
pub rising_end : (xs : List ℕ) (a : ℕ) → IsRisingList xs → ((b : ℕ) → Contains xs b → b < a)
    → IsRisingList (xs ++ a ∷ [])
rising_end [] a r below = rising_made a [] (λ b c. absurd (contains_nothing b c)) r
rising_end (x ∷ xs) a r below =
    rising_made x (xs ++ a ∷ []) (λ b c. elim (contains_cases xs a b c) [
      | inl old ↦ rising_head x xs b r old
      | inr e ↦ let lt : x < a = below x (contains_here x xs) in omega (arith, e, lt)
    ]) (rising_end xs a (rising_tail x xs r) (λ b c. below b (contains_there x b xs c)))

-- two rising lists that contain the same are the same
pub rising_one : (xs ys : List ℕ) → IsRisingList xs → IsRisingList ys → ((b : ℕ) → (Contains xs b ↔ Contains ys b))
    → xs ≡ ys
rising_one [] [] r s same = refl
rising_one [] (y ∷ ys) r s same = absurd (contains_nothing y ((same y).1 (contains_here y ys)))
rising_one (x ∷ xs) [] r s same = absurd (contains_nothing x ((same x).0 (contains_here x xs)))
rising_one (x ∷ xs) (y ∷ ys) r s same =
    let e : x ≡ y = first in
    let tails : (b : ℕ) → (Contains xs b ↔ Contains ys b) = λ b. (
      (λ c. elim (contains_split y b ys ((same b).0 (contains_there x b xs c))) [
        | inl f ↦ let lt : x < b = rising_head x xs b r c in absurd (omega (arith, e, f, lt))
        | inr d ↦ d
      ]),
      (λ c. elim (contains_split x b xs ((same b).1 (contains_there y b ys c))) [
        | inl f ↦ let lt : y < b = rising_head y ys b s c in absurd (omega (arith, e, f, lt))
        | inr d ↦ d
      ]),
    ) in
    let rest : xs ≡ ys = rising_one xs ys (rising_tail x xs r) (rising_tail y ys s) tails in
    ap (λ z. z ∷ xs) e ∙ ap (λ zs. y ∷ zs) rest
  where
    not_less : (x y : ℕ) (xs ys : List ℕ) → IsRisingList (y ∷ ys) → Contains (y ∷ ys) x → x < y → ⊥
    not_less x y xs ys s c lt = elim (contains_split y x ys c) [
      | inl f ↦ omega arith
      | inr d ↦ let gt : y < x = rising_head y ys x s d in omega arith
    ]

    first : x ≡ y
    first = elim (cases_order x y) [
      | inl e ↦ e
      | inr w ↦ elim w [
        | inl lt ↦ absurd (not_less x y xs ys s ((same x).0 (contains_here x xs)) lt)
        | inr gt ↦ absurd (not_less y x ys xs r ((same y).1 (contains_here y ys)) gt)
      ]
    ]
