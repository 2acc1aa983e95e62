-- Items with a key, put in its order, are those of each key, one after the other.
use Rattle.std.proofs.Common.{◌≡◌, ◌∙◌, inl, inr, ℕ, zero, suc, ◌<◌, ◌≤◌, Bool, true, cond, List, []}
use Rattle.std.proofs.Common.{◌∷◌, ◌++◌, eqb, nat_cmp, is_lt, All, Some, refl, ap, sym, arith}
use Rattle.std.specs.Prelude.{slice_get, filter}
use Rattle.std.specs.List.{flat_map}
use Rattle.std.specs.List.Sorted.{ties, IsNonDecreasingBy, IsStableByKey}
use Rattle.std.proofs.lemmas.Bool.{cases_Bool, eqb-true, eqb-false}
use Rattle.std.proofs.lemmas.Bool.Decides.{nat_tests}
use Rattle.std.proofs.lemmas.List.Elements.{All-head, All-tail, All-cons, filter-append, filter_agree}

-- each of these comes with a larger number than those before it
abbrev pub Rise : {T : Type 0} → (T → ℕ) → List T → Type 0
Rise {T} at ts =
    (s t : ℕ) (a b : T) → s < t → slice_get ts s ≡ Some a → slice_get ts t ≡ Some b → at a < at b

-- one of these has the number
pub record IsOneOf {T : Type 0} (at : T → ℕ) (ts : List T) (m : ℕ) : Type 0 where
  pub place : ℕ
  pub item : T
  pub stands : slice_get ts place ≡ Some item
  pub is : at item ≡ m

pub rise_rest : {T : Type 0} (at : T → ℕ) (t : T) (ts : List T) → Rise at (t ∷ ts) → Rise at ts
rise_rest at t ts rise = λ s u a b lt here there. rise (suc s) (suc u) a b (omega (arith, lt)) here there

pub rise_above : {T : Type 0} (at : T → ℕ) (t : T) (ts : List T) (k : ℕ) (u : T) → Rise at (t ∷ ts)
    → slice_get ts k ≡ Some u → at t < at u
rise_above at t ts k u rise here = rise 0 (suc k) t u (omega arith) refl here

-- neither of two numbers is less where they are the same, and only there
ties_at : (m n : ℕ)
    → (ties (λ x y. is_lt (nat_cmp x y)) m n ≡ true → m ≡ n) × (m ≡ n → ties (λ x y. is_lt (nat_cmp x y)) m n ≡ true)
ties_at m n = (λ h. grind (arith, nat_tests), λ h. grind (arith, nat_tests))

ties_is : (m n : ℕ) → ties (λ x y. is_lt (nat_cmp x y)) m n ≡ eqb n m
ties_is m n = elim (cases_Bool (eqb n m)) [
  | inl equal ↦ (ties_at m n).1 (sym (eqb-true n m equal)) ∙ sym equal
  | inr other ↦ elim (cases_Bool (ties (λ x y. is_lt (nat_cmp x y)) m n)) [
    | inl tie ↦ absurd (eqb-false n m other (sym ((ties_at m n).0 tie)))
    | inr apart ↦ apart ∙ sym other
  ]
]

module _ {X : Type 0} (key : X → ℕ) where
  -- the item has this key
  abbrev pub has_key : ℕ → X → Bool
  has_key m x = eqb (key x) m

  rising_rest : (x : X) (xs : List X) → IsNonDecreasingBy key (x ∷ xs) → IsNonDecreasingBy key xs
  rising_rest x xs up = λ i j d le lt. up (suc i) (suc j) d (omega (arith, le)) (omega (arith, lt))

  rising_above : (x : X) (xs : List X) → IsNonDecreasingBy key (x ∷ xs) → All (λ y. key x ≤ key y) xs
  rising_above x xs up = λ k d lt. up 0 (suc k) d (omega arith) (omega (arith, lt))

  pub filter_in : (m : ℕ) (x : X) (xs : List X) → key x ≡ m
      → filter (has_key m) (x ∷ xs) ≡ x ∷ filter (has_key m) xs
  filter_in m x xs is = elim (cases_Bool (eqb (key x) m)) [
    | inl equal ↦ ap (λ b. cond b (x ∷ filter (has_key m) xs) (filter (has_key m) xs)) equal
    | inr other ↦ absurd (eqb-false (key x) m other is)
  ]

  pub filter_out : (m : ℕ) (x : X) (xs : List X) → (key x ≡ m → ⊥)
      → filter (has_key m) (x ∷ xs) ≡ filter (has_key m) xs
  filter_out m x xs not = elim (cases_Bool (eqb (key x) m)) [
    | inl equal ↦ absurd (not (eqb-true (key x) m equal))
    | inr other ↦ ap (λ b. cond b (x ∷ filter (has_key m) xs) (filter (has_key m) xs)) other
  ]

  -- none has the key
  pub none_has : (m : ℕ) (xs : List X) → All (λ x. key x ≡ m → ⊥) xs → filter (has_key m) xs ≡ []
  none_has m [] none = refl
  none_has m (x ∷ xs) none =
      filter_out m x xs (All-head (λ y. key y ≡ m → ⊥) x xs none)
      ∙ none_has m xs (All-tail (λ y. key y ≡ m → ⊥) x xs none)

  -- all have it
  pub all_have : (m : ℕ) (xs : List X) → All (λ x. key x ≡ m) xs → filter (has_key m) xs ≡ xs
  all_have m [] all = refl
  all_have m (x ∷ xs) all =
      filter_in m x xs (All-head (λ y. key y ≡ m) x xs all)
      ∙ ap (λ l. x ∷ l) (all_have m xs (All-tail (λ y. key y ≡ m) x xs all))

  -- of those of one key none has another
  filter_twice : (m n : ℕ) (xs : List X) → (m ≡ n → ⊥) → filter (has_key n) (filter (has_key m) xs) ≡ []
  filter_twice m n [] apart = refl
  filter_twice m n (x ∷ xs) apart = elim (cases_Bool (eqb (key x) m)) [
    | inl equal ↦
        let is = eqb-true (key x) m equal in
        ap (filter (has_key n)) (filter_in m x xs is)
        ∙ (filter_out n x (filter (has_key m) xs) (λ e. apart (sym is ∙ e)) ∙ filter_twice m n xs apart)
    | inr other ↦
        ap (filter (has_key n)) (filter_out m x xs (eqb-false (key x) m other)) ∙ filter_twice m n xs apart
  ]

  -- what comes behind those of the least key
  pub record Behind (P : X → Type 0) (m : ℕ) (xs : List X) : Type 0 where
    pub rest : List X
    pub whole : xs ≡ filter (has_key m) xs ++ rest
    pub up : IsNonDecreasingBy key rest
    pub above : All (λ x. m < key x) rest
    pub each : All P rest

  behind : (P : X → Type 0) (m : ℕ) (xs : List X) → IsNonDecreasingBy key xs → All (λ x. m ≤ key x) xs → All P xs
      → Behind P m xs
  behind P m [] up least each = record {
    rest = [];
    whole = refl;
    up = up;
    above = λ k d lt. absurd (omega (arith, lt));
    each = each;
  }
  behind P m (x ∷ xs) up least each =
      let low : m ≤ key x = All-head (λ y. m ≤ key y) x xs least in
      elim (cases_Bool (eqb (key x) m)) [
        | inl equal ↦
            let b = behind P m xs (rising_rest x xs up) (All-tail (λ y. m ≤ key y) x xs least) (All-tail P x xs each) in
            let is = eqb-true (key x) m equal in
            record {
              rest = b.rest;
              whole = ap (λ l. x ∷ l) b.whole ∙ ap (λ l. l ++ b.rest) (sym (filter_in m x xs is));
              up = b.up;
              above = b.above;
              each = b.each;
            }
        | inr other ↦
            let apart = eqb-false (key x) m other in
            let high : m < key x = omega (arith, low, apart) in
            let above : All (λ y. m < key y) (x ∷ xs) =
            All-cons (λ y. m < key y) x xs high
            (λ k d lt. let le = rising_above x xs up k d lt in omega (arith, le, high)) in
            record {
              rest = x ∷ xs;
              whole = ap (λ l. l ++ x ∷ xs) (sym (none_has m (x ∷ xs)
                  (λ k d lt e. let more = above k d lt in omega (arith, more, e))));
              up = up;
              above = above;
              each = each;
            }
      ]

  -- Items in the order of their keys, each of the key of one of these, where those of each of them are known
  pub merged : {T : Type 0} (at : T → ℕ) (part : T → List X) (ts : List T) (xs : List X) → Rise at ts
      → IsNonDecreasingBy key xs → All (λ x. IsOneOf at ts (key x)) xs
      → ((k : ℕ) (t : T) → slice_get ts k ≡ Some t → filter (has_key (at t)) xs ≡ part t)
      → xs ≡ flat_map part ts
  merged at part [] [] rise up among parts = refl
  merged {T} at part [] (x ∷ xs) rise up among parts =
      let one = All-head (λ y. IsOneOf at [] (key y)) x xs among in absurd (nowhere one.place one.item one.stands)
    where
      nowhere : (k : ℕ) (t : T) → slice_get [] k ≡ Some t → ⊥
      nowhere k t is = cc
  merged {T} at part (t ∷ ts) xs rise up among parts =
      let b = behind (λ x. IsOneOf at (t ∷ ts) (key x)) (at t) xs up
      (λ k d lt. least_of (among k d lt)) among in
      let rest = merged at part ts b.rest (rise_rest at t ts rise) b.up
      (λ k d lt. later (b.above k d lt) (b.each k d lt))
      (λ k u here.
      let apart : at t < at u = rise_above at t ts k u rise here in
      let split : filter (has_key (at u)) xs ≡ filter (has_key (at u)) b.rest =
      ap (filter (has_key (at u))) b.whole
      ∙ (filter-append (has_key (at u)) (filter (has_key (at t)) xs) b.rest
      ∙ ap (λ l. l ++ filter (has_key (at u)) b.rest)
      (filter_twice (at t) (at u) xs (λ e. absurd (omega (arith, apart, e))))) in
      sym split ∙ parts (suc k) u here) in
      b.whole ∙ (ap (λ l. l ++ b.rest) (parts 0 t refl) ∙ ap (λ l. part t ++ l) rest)
    where
      least_of : {m : ℕ} → IsOneOf at (t ∷ ts) m → at t ≤ m
      least_of {m} one = by one.place one.item one.stands one.is
        where
          by : (k : ℕ) (u : T) → slice_get (t ∷ ts) k ≡ Some u → at u ≡ m → at t ≤ m
          by zero u here is = let same : t ≡ u = cc in let e = ap at same in omega (arith, e, is)
          by (suc k) u here is = let lt = rise_above at t ts k u rise here in omega (arith, lt, is)

      later : {m : ℕ} → at t < m → IsOneOf at (t ∷ ts) m → IsOneOf at ts m
      later {m} above one = by one.place one.item one.stands one.is
        where
          by : (k : ℕ) (u : T) → slice_get (t ∷ ts) k ≡ Some u → at u ≡ m → IsOneOf at ts m
          by zero u here is = let same : t ≡ u = cc in let e = ap at same in absurd (omega (arith, above, e, is))
          by (suc k) u here is = record { place = k; item = u; stands = here; is = is }

  -- a stable sort keeps those of each key in their order
  pub stable_at : (x : X) (xs ys : List X) → IsStableByKey key nat_cmp xs ys
      → filter (has_key (key x)) ys ≡ filter (has_key (key x)) xs
  stable_at x xs ys stable =
      let test : X → Bool = ties (λ a b. is_lt (nat_cmp (key a) (key b))) x in
      let same : (y : X) → has_key (key x) y ≡ test y = λ y. sym (ties_is (key x) (key y)) in
      filter_agree (has_key (key x)) test same ys ∙ (stable x ∙ sym (filter_agree (has_key (key x)) test same xs))
