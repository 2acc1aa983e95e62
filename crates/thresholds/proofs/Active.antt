-- Whether a threshold is active, after one more sample.
use Rattle.std.proofs.Common.{◌≡◌, ◌⊎◌, inl, inr, ℕ, ◌+◌, ◌<◌, ◌≤◌, List, [], ◌∷◌, ◌++◌, length, Option, Some, None}
use Rattle.std.proofs.Common.{refl, subst, arith}
use Rattle.std.specs.Prelude.{◌↔◌}
use Rattle.std.proofs.lemmas.Bool.{cases_lt}
use Rattle.histories.proofs.Places.{length-more, kept, added, split, entry_at-below}
use Rattle.thresholds.specs.rule.Samples.{Sample, sample, IsBelow, IsBelowAt}
use Rattle.thresholds.specs.rule.Thresholds.{IsActive}

-- what is below a limit is below a greater one
pub below_more : (limit more : ℕ) (value : Option ℕ) → limit ≤ more → IsBelow limit value → IsBelow more value
below_more limit more None le b = absurd b
below_more limit more (Some v) le b = let lt : v < limit = b in omega arith

pub below_or_not : (limit : ℕ) (value : Option ℕ) → IsBelow limit value ⊎ (IsBelow limit value → ⊥)
below_or_not limit None = inr (λ b. b)
below_or_not limit (Some v) = elim (cases_lt v limit) [
  | inl lt ↦ inl lt
  | inr ge ↦ inr (λ b. let lt : v < limit = b in absurd (omega arith))
]

-- the value at the new place is the new one
new_at : (limit at : ℕ) (value : Option ℕ) (h : List Sample) (t : ℕ) → t ≡ length h → IsBelow limit value
    → IsBelowAt (h ++ sample at value ∷ []) limit t
new_at limit at value h t is b =
    let P : ℕ → Type 0 = λ k. IsBelowAt (h ++ sample at value ∷ []) limit k in
    let e : length h ≡ t = omega arith in
    subst P e (added (IsBelow limit) h (sample at value) b)

new_back : (limit at : ℕ) (value : Option ℕ) (h : List Sample) (t : ℕ) → t ≡ length h
    → IsBelowAt (h ++ sample at value ∷ []) limit t → IsBelow limit value
new_back limit at value h t is b = elim (split (IsBelow limit) h (sample at value) t b) [
  | inl old ↦ let lt : t < length h = entry_at-below (IsBelow limit) h t old in absurd (omega arith)
  | inr w ↦ w.1
]

old_back : (limit at : ℕ) (value : Option ℕ) (h : List Sample) (t : ℕ) → t < length h
    → IsBelowAt (h ++ sample at value ∷ []) limit t → IsBelowAt h limit t
old_back limit at value h t lt b = elim (split (IsBelow limit) h (sample at value) t b) [
  | inl old ↦ old
  | inr w ↦ let e : t ≡ length h = w.0 in absurd (omega arith)
]

-- a value below the limit makes it active
pub active_by : (limit reclaim at : ℕ) (value : Option ℕ) (h : List Sample) → IsBelow limit value
    → IsActive limit reclaim (h ++ sample at value ∷ [])
active_by limit reclaim at value h b = record {
  place = length h;
  below = new_at limit at value h (length h) refl b;
  not_cleared = λ t le lt.
      let len : t < length (h ++ sample at value ∷ []) = lt in
      new_at (limit + reclaim) at value h t (omega (arith, length-more h (sample at value)))
      (below_more limit (limit + reclaim) value (omega arith) b);
}

-- a value below the limit plus the reclaim leaves it active
pub active_still : (limit reclaim at : ℕ) (value : Option ℕ) (h : List Sample) → IsActive limit reclaim h
    → IsBelow (limit + reclaim) value → IsActive limit reclaim (h ++ sample at value ∷ [])
active_still limit reclaim at value h a b = record {
  place = a.place;
  below = kept (IsBelow limit) h (sample at value) a.place a.below;
  not_cleared = λ t le lt. elim (cases_lt t (length h)) [
    | inl old ↦ kept (IsBelow (limit + reclaim)) h (sample at value) t (a.not_cleared t le old)
    | inr ge ↦
        let len : t < length (h ++ sample at value ∷ []) = lt in
        new_at (limit + reclaim) at value h t (omega (arith, length-more h (sample at value))) b
  ];
}

-- and nothing else does
pub active_from : (limit reclaim at : ℕ) (value : Option ℕ) (h : List Sample)
    → IsActive limit reclaim (h ++ sample at value ∷ [])
    → IsBelow limit value ⊎ (IsActive limit reclaim h × IsBelow (limit + reclaim) value)
active_from limit reclaim at value h a =
    let within : a.place < length (h ++ sample at value ∷ []) = entry_at-below (IsBelow limit)
    (h ++ sample at value ∷ []) a.place a.below in
    let len : length (h ++ sample at value ∷ []) ≡ length h + 1 = omega (arith, length-more h (sample at value)) in
    elim (cases_lt a.place (length h)) [
      | inl old ↦ inr (
        record {
          place = a.place;
          below = old_back limit at value h a.place old a.below;
          not_cleared = λ t le lt. old_back (limit + reclaim) at value h t lt (a.not_cleared t le (omega arith));
        },
        new_back (limit + reclaim) at value h (length h) refl (a.not_cleared (length h) (omega arith) (omega arith)),
      )
      | inr ge ↦ inl (new_back limit at value h a.place (omega arith) a.below)
    ]

pub active_more : (limit reclaim at : ℕ) (value : Option ℕ) (h : List Sample)
    → (IsActive limit reclaim (h ++ sample at value ∷ [])
    ↔ (IsBelow limit value ⊎ (IsActive limit reclaim h × IsBelow (limit + reclaim) value)))
active_more limit reclaim at value h = (
  active_from limit reclaim at value h,
  (λ w. elim w [
    | inl b ↦ active_by limit reclaim at value h b
    | inr v ↦ active_still limit reclaim at value h v.0 v.1
  ]),
)

-- it is active, or it is not
pub active_or_not : (limit reclaim at : ℕ) (value : Option ℕ) (h : List Sample)
    → IsActive limit reclaim h ⊎ (IsActive limit reclaim h → ⊥)
    → IsActive limit reclaim (h ++ sample at value ∷ []) ⊎ (IsActive limit reclaim (h ++ sample at value ∷ []) → ⊥)
active_or_not limit reclaim at value h before = elim (below_or_not limit value) [
  | inl b ↦ inl (active_by limit reclaim at value h b)
  | inr not ↦ elim before [
    | inr off ↦ inr (λ a. elim (active_from limit reclaim at value h a) [ inl b ↦ not b | inr v ↦ off v.0 ])
    | inl on ↦ elim (below_or_not (limit + reclaim) value) [
      | inl b ↦ inl (active_still limit reclaim at value h on b)
      | inr above ↦ inr (λ a. elim (active_from limit reclaim at value h a) [ inl b ↦ not b | inr v ↦ above v.1 ])
    ]
  ]
]

pub none_active : (limit reclaim : ℕ) → IsActive limit reclaim [] → ⊥
none_active limit reclaim a = a.below
