-- Since when a threshold is active, after one more sample.
use Rattle.std.proofs.Common.{◌≡◌, ◌⊎◌, inl, inr, ℕ, suc, ◌+◌, ◌-◌, ◌<◌, ◌≤◌, Bool, true, false, List, [], ◌∷◌, ◌++◌}
use Rattle.std.proofs.Common.{length, Option, Some, None, refl, subst, sym, ◌∙◌, arith}
use Rattle.std.specs.Prelude.{◌↔◌, IsTrue, IsSome, IsSomeAnd}
use Rattle.std.specs.Option.{option_or}
use Rattle.std.proofs.lemmas.Bool.{cases_lt}
use Rattle.std.proofs.lemmas.List.{take_all}
use Rattle.histories.specs.rule.Histories.{HoldsAt, up_to}
use Rattle.histories.proofs.Moments.{last_moment-more}
use Rattle.histories.proofs.Places.{length-more}
use Rattle.histories.proofs.First.{Grows, IsFirstMoment-more, IsFirstMoment-unique}
use Rattle.histories.proofs.Growth.{grows_so}
use Rattle.thresholds.specs.rule.Samples.{Sample, sample, IsBelow}
use Rattle.thresholds.specs.rule.Thresholds.{IsActive, IsActiveFrom, IsActiveSince, IsDue}
use Rattle.thresholds.proofs.Active.{below_or_not, active_by, active_still, active_from, none_active}

-- the stretch, over one more sample that leaves the threshold active
from_grows : (limit reclaim : ℕ) (h : List Sample) (x : Sample) → IsActive limit reclaim (h ++ x ∷ [])
    → Grows (length h) (IsActiveFrom limit reclaim h) (IsActiveFrom limit reclaim (h ++ x ∷ []))
    (IsActive limit reclaim (h ++ x ∷ []))
from_grows limit reclaim h x on =
    let g = grows_so (IsActive limit reclaim) h x in
    let len : length (h ++ x ∷ []) ≡ suc (length h) = length-more h x in
    record {
      below = λ t f. f.within;
      old = λ t f. record {
        within = let lt : t < length h = f.within in omega arith;
        unbroken = λ v le lt. elim (cases_lt v (length h)) [
          | inl old ↦ g.old v (f.unbroken v le old)
          | inr ge ↦
              let e : length h ≡ v = let within : v < length (h ++ x ∷ []) = lt in omega arith in
              let P : ℕ → Type 0 = λ k. HoldsAt (IsActive limit reclaim) (h ++ x ∷ []) k in
              subst P e (g.new on)
        ];
      };
      new = λ _. record {
        within = omega arith;
        unbroken = λ v le lt.
            let e : length h ≡ v = let within : v < length (h ++ x ∷ []) = lt in omega arith in
            let P : ℕ → Type 0 = λ k. HoldsAt (IsActive limit reclaim) (h ++ x ∷ []) k in
            subst P e (g.new on);
      };
      split = λ t f. elim (cases_lt t (length h)) [
        | inl lt ↦ inl (record {
          within = lt;
          unbroken = λ v le old. elim (g.split v (f.unbroken v le (omega arith))) [
            | inl s ↦ s
            | inr w ↦ let e : v ≡ length h = w.0 in absurd (omega arith)
          ];
        })
        | inr ge ↦ inr ((let within : t < length (h ++ x ∷ []) = f.within in omega arith), on)
      ];
    }

-- the place of the last sample
at_last : (limit reclaim : ℕ) (y : Sample) (h : List Sample)
    → (HoldsAt (IsActive limit reclaim) (y ∷ h) (length h) ↔ IsActive limit reclaim (y ∷ h))
at_last limit reclaim y h =
    let e : up_to (y ∷ h) (length h) ≡ y ∷ h = take_all (suc (length h)) (y ∷ h) (omega arith) in (
      (λ s. subst (IsActive limit reclaim) e s.so),
      (λ a. record { within = omega arith; so = subst (IsActive limit reclaim) (sym e) a }),
    )

-- a stretch ends at the last sample, so the threshold is active
from_active : (limit reclaim : ℕ) (h : List Sample) (u : ℕ) → IsActiveFrom limit reclaim h u → IsActive limit reclaim h
from_active limit reclaim [] u f = let lt : u < 0 = f.within in absurd (omega arith)
from_active limit reclaim (y ∷ h) u f =
    let within : u < length (y ∷ h) = f.within in
    (at_last limit reclaim y h).0 (f.unbroken (length h) (omega arith) (omega arith))

-- where it is active there is a stretch
some_from : (limit reclaim : ℕ) (h : List Sample) → IsActive limit reclaim h → (u : ℕ) × IsActiveFrom limit reclaim h u
some_from limit reclaim [] a = absurd (none_active limit reclaim a)
some_from limit reclaim (y ∷ h) a = (
  length h,
  record {
    within = omega arith;
    unbroken = λ v le lt.
        let e : length h ≡ v = let within : v < length (y ∷ h) = lt in omega arith in
        let P : ℕ → Type 0 = λ k. HoldsAt (IsActive limit reclaim) (y ∷ h) k in
        subst P e ((at_last limit reclaim y h).1 a);
  },
)

-- the threshold is active exactly where there is such a moment
pub since_some : (limit reclaim : ℕ) (h : List Sample) (since : Option ℕ) → IsActiveSince limit reclaim h since
    → (IsSome since ↔ IsActive limit reclaim h)
since_some limit reclaim h None none = (
  (λ s. absurd (let e : false ≡ true = s in cc)),
  (λ a. let w = some_from limit reclaim h a in absurd (none w.0 w.1)),
)
since_some limit reclaim h (Some m) (u, f, is) = ((λ _. from_active limit reclaim h u f.holds), (λ _. refl))

-- the moment stays, or is the new one, where the threshold is active after one more sample
pub since_goes_on : (limit reclaim : ℕ) (h : List Sample) (x : Sample) (since : Option ℕ)
    → IsActive limit reclaim (h ++ x ∷ [])
    → IsActiveSince limit reclaim h since → IsActiveSince limit reclaim (h ++ x ∷ []) (option_or since (Some x.moment))
since_goes_on limit reclaim h x since on is =
    IsFirstMoment-more h x (IsActiveFrom limit reclaim h) (IsActiveFrom limit reclaim (h ++ x ∷ []))
    (IsActive limit reclaim (h ++ x ∷ [])) true since
    (from_grows limit reclaim h x on) (λ _. on) (λ _. refl) is

-- and there is none where it is not
pub since_none : (limit reclaim : ℕ) (h : List Sample) → (IsActive limit reclaim h → ⊥)
    → IsActiveSince limit reclaim h None
since_none limit reclaim h off = λ u f. off (from_active limit reclaim h u f)

pub since_unique : (limit reclaim : ℕ) (h : List Sample) (one other : Option ℕ) → IsActiveSince limit reclaim h one
    → IsActiveSince limit reclaim h other → one ≡ other
since_unique limit reclaim h one other p q = IsFirstMoment-unique h (IsActiveFrom limit reclaim h) one other p q

-- due, by the moment since which it is active
pub due_by : (limit reclaim grace : ℕ) (h : List Sample) (x : Sample) (since : Option ℕ)
    → IsActiveSince limit reclaim (h ++ x ∷ []) since
    → (IsSomeAnd since (λ moment. grace ≤ x.moment - moment) ↔ IsDue limit reclaim grace (h ++ x ∷ []))
due_by limit reclaim grace h x None is = (
  (λ p. absurd p),
  (λ d. let e : None ≡ Some d.since = since_unique limit reclaim (h ++ x ∷ []) None (Some d.since) is d.is_since in
      absurd (cc)),
)
due_by limit reclaim grace h x (Some m) is = (
  (λ p. record {
    active = (since_some limit reclaim (h ++ x ∷ []) (Some m) is).0 refl;
    since = m;
    is_since = is;
    now = x.moment;
    is_now = last_moment-more h x;
    passed = p;
  }),
  (λ d.
      let same : Some m ≡ Some d.since = since_unique limit reclaim (h ++ x ∷ []) (Some m) (Some d.since) is
      d.is_since in
      let now : Some x.moment ≡ Some d.now = sym (last_moment-more h x) ∙ d.is_now in
      let first : m ≡ d.since = cc in
      let last : x.moment ≡ d.now = cc in
      let passed : grace ≤ d.now - d.since = d.passed in
      rw first (rw last passed)),
)

-- what the watch keeps, in the words of the samples
since_moved : (limit reclaim at : ℕ) (value : Option ℕ) (h : List Sample) (since after : Option ℕ)
    → IsActiveSince limit reclaim h since
    → IsBelow limit value ⊎ (IsSome since × IsBelow (limit + reclaim) value) → after ≡ option_or since (Some at)
    → IsActiveSince limit reclaim (h ++ sample at value ∷ []) after
since_moved limit reclaim at value h since after is test moved =
    let P : Option ℕ → Type 0 = λ o. IsActiveSince limit reclaim (h ++ sample at value ∷ []) o in
    let on : IsActive limit reclaim (h ++ sample at value ∷ []) = elim test [
      | inl b ↦ active_by limit reclaim at value h b
      | inr w ↦ active_still limit reclaim at value h ((since_some limit reclaim h since is).0 w.0) w.1
    ] in
    subst P (sym moved) (since_goes_on limit reclaim h (sample at value) since on is)

since_lost : (limit reclaim at : ℕ) (value : Option ℕ) (h : List Sample) (since after : Option ℕ)
    → IsActiveSince limit reclaim h since
    → (IsBelow limit value ⊎ (IsSome since × IsBelow (limit + reclaim) value) → ⊥) → after ≡ None
    → IsActiveSince limit reclaim (h ++ sample at value ∷ []) after
since_lost limit reclaim at value h since after is test lost =
    let P : Option ℕ → Type 0 = λ o. IsActiveSince limit reclaim (h ++ sample at value ∷ []) o in
    subst P (sym lost) (since_none limit reclaim (h ++ sample at value ∷ [])
    (λ on. elim (active_from limit reclaim at value h on) [
      | inl b ↦ test (inl b)
      | inr w ↦ test (inr ((since_some limit reclaim h since is).1 w.0, w.1))
    ]))

left_or_not : (limit clears_from : ℕ) (value since : Option ℕ)
    → (IsBelow limit value ⊎ (IsSome since × IsBelow clears_from value)) ⊎
    (IsBelow limit value ⊎ (IsSome since × IsBelow clears_from value) → ⊥)
left_or_not limit clears_from value None = elim (below_or_not limit value) [
  | inl b ↦ inl (inl b)
  | inr not ↦ inr (λ w. elim w [ inl b ↦ not b | inr v ↦ let e : false ≡ true = v.0 in absurd (cc) ])
]
left_or_not limit clears_from value (Some m) = elim (below_or_not limit value) [
  | inl b ↦ inl (inl b)
  | inr not ↦ elim (below_or_not clears_from value) [
    | inl b ↦ inl (inr (refl, b))
    | inr above ↦ inr (λ w. elim w [ inl b ↦ not b | inr v ↦ above v.1 ])
  ]
]

-- since when it is active, after one more sample
since_after : (limit reclaim clears_from at : ℕ) (value : Option ℕ) (h : List Sample) (since after : Option ℕ)
    → clears_from ≡ limit + reclaim → IsActiveSince limit reclaim h since
    → (IsBelow limit value ⊎ (IsSome since × IsBelow clears_from value) → after ≡ option_or since (Some at))
    → ((IsBelow limit value ⊎ (IsSome since × IsBelow clears_from value) → ⊥) → after ≡ None)
    → IsActiveSince limit reclaim (h ++ sample at value ∷ []) after
since_after limit reclaim clears_from at value h since after clears is left lost =
    let P : ℕ → Type 0 = λ k. IsBelow k value in
    elim (left_or_not limit clears_from value since) [
      | inl w ↦ since_moved limit reclaim at value h since after is
          (elim w [ inl b ↦ inl b | inr v ↦ inr (v.0, subst P clears v.1) ]) (left w)
      | inr not ↦ since_lost limit reclaim at value h since after is
          (λ w. not (elim w [ inl b ↦ inl b | inr v ↦ inr (v.0, subst P (sym clears) v.1) ])) (lost not)
    ]

pub since_after_by : (limit reclaim kept clears_from at : ℕ) (value : Option ℕ) (h : List Sample)
    (since after : Option ℕ) → kept ≡ limit → clears_from ≡ limit + reclaim → IsActiveSince limit reclaim h since
    → (IsBelow kept value ⊎ (IsSome since × IsBelow clears_from value) → after ≡ option_or since (Some at))
    → ((IsBelow kept value ⊎ (IsSome since × IsBelow clears_from value) → ⊥) → after ≡ None)
    → IsActiveSince limit reclaim (h ++ sample at value ∷ []) after
since_after_by limit reclaim kept clears_from at value h since after same clears is left lost =
    let P : ℕ → Type 0 = λ k. IsBelow k value ⊎ (IsSome since × IsBelow clears_from value) in
    since_after limit reclaim clears_from at value h since after clears is (λ w. left (subst P (sym same) w))
    (λ not. lost (λ w. not (subst P same w)))

pub due_after : (limit reclaim kept grace : ℕ) (h : List Sample) (x : Sample) (since : Option ℕ) (test : Bool)
    → kept ≡ grace → IsActiveSince limit reclaim (h ++ x ∷ []) since
    → (IsTrue test ↔ IsSomeAnd since (λ moment. kept ≤ x.moment - moment))
    → (IsTrue test ↔ IsDue limit reclaim grace (h ++ x ∷ []))
due_after limit reclaim kept grace h x since test same is by =
    let P : ℕ → Type 0 = λ k. IsTrue test ↔ IsSomeAnd since (λ moment. k ≤ x.moment - moment) in
    let moved : IsTrue test ↔ IsSomeAnd since (λ moment. grace ≤ x.moment - moment) = subst P same by in
    let due = due_by limit reclaim grace h x since is in
    ((λ t. due.0 (moved.0 t)), (λ d. moved.1 (due.1 d)))

pub since_test : (limit reclaim : ℕ) (h : List Sample) (since : Option ℕ) (test : Bool) → (IsTrue test ↔ IsSome since)
    → IsActiveSince limit reclaim h since
    → (IsTrue test ↔ IsActive limit reclaim h)
since_test limit reclaim h since test is at =
    let some = since_some limit reclaim h since at in
    ((λ t. some.0 (is.0 t)), (λ a. is.1 (some.1 a)))
