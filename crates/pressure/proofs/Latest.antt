-- The latest moment at which a condition was met, after one more observation.
use Rattle.std.proofs.Common.{◌≡◌, ◌⊎◌, inl, inr, ℕ, zero, suc, ◌<◌, ◌≤◌, Bool, true, false, List, [], ◌∷◌, ◌++◌}
use Rattle.std.proofs.Common.{length, Option, Some, None, max, subst, sym, ◌∙◌, arith}
use Rattle.std.specs.Prelude.{IsTrue}
use Rattle.std.proofs.lemmas.Bool.{cases_lt}
use Rattle.histories.specs.rule.Histories.{recorded, moment_at}
use Rattle.histories.proofs.Places.{kept, added, split, entry_at-below, moment_at-old, moment_at-new}
use Rattle.pressure.specs.rule.Pressures.{Observation, IsMetAt}
use Rattle.pressure.specs.state.State.{IsLatest, IsLatestMet, later_of}

-- one more observation leaves the moments before it as they are
pub moment_at-back : (h : List Observation) (x : Observation) (t m : ℕ) → t < length h
    → moment_at (h ++ x ∷ []) t ≡ Some m → moment_at h t ≡ Some m
moment_at-back [] x t m lt e = absurd (omega arith)
moment_at-back (y ∷ h) x zero m lt e = e
moment_at-back (y ∷ h) x (suc t) m lt e = moment_at-back h x t m (omega arith) e

-- a place was met before, or is the new one
met_split : (h : List Observation) (x : Observation) (t m : ℕ) → IsMetAt (h ++ x ∷ []) t
    → moment_at (h ++ x ∷ []) t ≡ Some m
    → (IsMetAt h t × (moment_at h t ≡ Some m)) ⊎ ((m ≡ x.moment) × IsTrue x.entry)
met_split h x t m met at = elim (split IsTrue h x t met) [
  | inl old ↦ inl (old, moment_at-back h x t m (entry_at-below IsTrue h t old) at)
  | inr w ↦
      let P : ℕ → Type 0 = λ k. moment_at (h ++ x ∷ []) k ≡ Some m in
      let e : Some x.moment ≡ Some m = sym (moment_at-new h x) ∙ subst P w.0 at in
      inr ((cc), w.1)
]

-- an observation that is not met leaves it
pub latest_kept : (h : List Observation) (x : Observation) (latest : Option ℕ) → (IsTrue x.entry → ⊥)
    → IsLatestMet h latest → IsLatestMet (h ++ x ∷ []) latest
latest_kept h x None not none = λ t met. elim (split IsTrue h x t met) [ inl old ↦ none t old | inr w ↦ not w.1 ]
latest_kept h x (Some latest) not is = record {
  place = is.place;
  met = kept IsTrue h x is.place is.met;
  moment = moment_at-old h x is.place latest is.moment;
  none_later = λ t m met at. elim (met_split h x t m met at) [
    | inl old ↦ is.none_later t m old.0 old.1
    | inr w
        ↦ absurd (not w.1)
  ];
}

-- and one that is met may be the latest
pub latest_moved : (h : List Observation) (x : Observation) (latest : Option ℕ) → IsTrue x.entry
    → IsLatestMet h latest → IsLatest (h ++ x ∷ []) (later_of latest x.moment)
latest_moved h x None met none = record {
  place = length h;
  met = added IsTrue h x met;
  moment = moment_at-new h x;
  none_later = λ t m was at. elim (met_split h x t m was at) [
    | inl old ↦ absurd (none t old.0)
    | inr w
        ↦ let e : m ≡ x.moment = w.0 in omega arith
  ];
}
latest_moved h x (Some latest) met is = elim (cases_lt x.moment latest) [
  | inl lt ↦ record {
    place = is.place;
    met = kept IsTrue h x is.place is.met;
    moment =
        let e : latest ≡ max x.moment latest = omega arith in
        let P : ℕ → Type 0 = λ k. moment_at (h ++ x ∷ []) is.place ≡ Some k in
        subst P e (moment_at-old h x is.place latest is.moment);
    none_later = λ t m was at. below t m was at;
  }
  | inr ge ↦ record {
    place = length h;
    met = added IsTrue h x met;
    moment =
        let e : x.moment ≡ max x.moment latest = omega arith in
        let P : ℕ → Type 0 = λ k. moment_at (h ++ x ∷ []) (length h) ≡ Some k in
        subst P e (moment_at-new h x);
    none_later = λ t m was at. below t m was at;
  }
]
  where
    below : (t m : ℕ) → IsMetAt (h ++ x ∷ []) t → moment_at (h ++ x ∷ []) t ≡ Some m → m ≤ max x.moment latest
    below t m was at = elim (met_split h x t m was at) [
      | inl old ↦ let le : m ≤ latest = is.none_later t m old.0 old.1 in omega arith
      | inr w ↦ let e : m ≡ x.moment = w.0 in omega arith
    ]

pub met_after : (h : List Observation) (latest : Option ℕ) (at later : ℕ) (met : Bool) → met ≡ true
    → later ≡ later_of latest at → IsLatestMet h latest → IsLatest (h ++ recorded at met ∷ []) later
met_after h latest at later met e is l =
    let P : ℕ → Type 0 = λ k. IsLatest (h ++ recorded at met ∷ []) k in
    subst P (sym is) (latest_moved h (recorded at met) latest e l)

pub not_met_after : (h : List Observation) (latest : Option ℕ) (at : ℕ) (met : Bool) → met ≡ false
    → IsLatestMet h latest → IsLatestMet (h ++ recorded at met ∷ []) latest
not_met_after h latest at met e l = latest_kept h (recorded at met) latest (λ t. let x : met ≡ true = t in cc) l
