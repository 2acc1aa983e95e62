-- Since when something has held, after one more record.
use Rattle.std.proofs.Common.{◌≡◌, inl, inr, ℕ, suc, ◌<◌, Bool, true, false, List, [], ◌∷◌, ◌++◌, length, Option}
use Rattle.std.proofs.Common.{Some, None, refl, subst, sym, arith}
use Rattle.std.specs.Prelude.{◌↔◌, IsTrue, IsSome, if◌then◌else◌}
use Rattle.std.specs.Option.{option_or}
use Rattle.std.proofs.lemmas.Bool.{cases_lt}
use Rattle.std.proofs.lemmas.List.{take_all}
use Rattle.histories.specs.rule.Histories.{Recorded, HoldsAt, up_to}
use Rattle.histories.proofs.Places.{length-more}
use Rattle.histories.proofs.First.{Grows, IsFirstMoment-more, IsFirstMoment-unique}
use Rattle.histories.proofs.Growth.{grows_so}
use Rattle.thresholds.specs.rule.Samples.{Sample}
use Rattle.thresholds.specs.rule.Thresholds.{IsActive, IsActiveSince}
use Rattle.thresholds.proofs.Since.{since_goes_on, since_none as inactive}
use Rattle.signal_causes.specs.rule.Stretches.{HoldsFrom, HasHeldSince}

-- the places from which on it has held, with one more record of which it holds
from_grows : {A : Type 0} (P : List (Recorded A) → Type 0) (h : List (Recorded A)) (x : Recorded A) → P (h ++ x ∷ [])
    → Grows (length h) (HoldsFrom P h) (HoldsFrom P (h ++ x ∷ [])) (P (h ++ x ∷ []))
from_grows P h x on =
    let g = grows_so P h x in
    let len : length (h ++ x ∷ []) ≡ suc (length h) = length-more h x in
    record {
      below = λ t f. f.within;
      old = λ t f. record {
        within = let lt : t < length h = f.within in omega arith;
        unbroken = λ v le lt. elim (cases_lt v (length h)) [
          | inl old ↦ g.old v (f.unbroken v le old)
          | inr ge ↦
              let e : length h ≡ v = let within : v < length (h ++ x ∷ []) = lt in omega arith in
              subst (λ (k : ℕ). HoldsAt P (h ++ x ∷ []) k) e (g.new on)
        ];
      };
      new = λ _. record {
        within = omega arith;
        unbroken = λ v le lt.
            let e : length h ≡ v = let within : v < length (h ++ x ∷ []) = lt in omega arith in
            subst (λ (k : ℕ). HoldsAt P (h ++ x ∷ []) k) e (g.new on);
      };
      split = λ t f. elim (cases_lt t (length h)) [
        | inl lt ↦ inl (record {
          within = lt;
          unbroken = λ v le old. elim (g.split v (f.unbroken v le (omega arith))) [
            | inl s ↦ s
            | inr w ↦ let e : v ≡ length h = w.0 in absurd (omega arith)
          ];
        })
        | inr ge ↦ inr ((let within : t < length (h ++ x ∷ []) = f.within in omega arith), on)
      ];
    }

-- what has held from some place on holds
from_holds : {A : Type 0} (P : List (Recorded A) → Type 0) (h : List (Recorded A)) (u : ℕ) → HoldsFrom P h u → P h
from_holds P [] u f = let lt : u < 0 = f.within in absurd (omega arith)
from_holds P (y ∷ h) u f =
    let within : u < length (y ∷ h) = f.within in
    let e : up_to (y ∷ h) (length h) ≡ y ∷ h = take_all (suc (length h)) (y ∷ h) (omega arith) in
    subst P e (f.unbroken (length h) (omega arith) (omega arith)).so

-- what holds has held from the last place on
holds_from : {A : Type 0} (P : List (Recorded A) → Type 0) (y : Recorded A) (h : List (Recorded A)) → P (y ∷ h)
    → HoldsFrom P (y ∷ h) (length h)
holds_from P y h p = record {
  within = omega arith;
  unbroken = λ v le lt.
      let e : length h ≡ v = let within : v < length (y ∷ h) = lt in omega arith in
      let whole : up_to (y ∷ h) (length h) ≡ y ∷ h = take_all (suc (length h)) (y ∷ h) (omega arith) in
      subst (λ (k : ℕ). HoldsAt P (y ∷ h) k) e (record { within = omega arith; so = subst P (sym whole) p });
}

-- the moment, after one more record
pub since_more : {A : Type 0} (P : List (Recorded A) → Type 0) (h : List (Recorded A)) (x : Recorded A) (holds : Bool)
    (since new : Option ℕ) → (IsTrue holds ↔ P (h ++ x ∷ [])) → HasHeldSince P h since
    → new ≡ (if holds then option_or since (Some x.moment) else None) → HasHeldSince P (h ++ x ∷ []) new
since_more P h x true since new iff is e =
    let on = iff.0 refl in
    rw e (IsFirstMoment-more h x (HoldsFrom P h) (HoldsFrom P (h ++ x ∷ [])) (P (h ++ x ∷ [])) true since
    (from_grows P h x on) (λ _. on) (λ _. refl) is)
since_more P h x false since new iff is e =
    rw e (λ u f. let so : IsTrue false = iff.1 (from_holds P (h ++ x ∷ []) u f) in cc)

-- before any record there is none
pub since_none : {A : Type 0} (P : List (Recorded A) → Type 0) → HasHeldSince P [] None
since_none P = λ u f. let lt : u < 0 = f.within in absurd (omega arith)

pub since_unique : {A : Type 0} (P : List (Recorded A) → Type 0) (h : List (Recorded A)) (one other : Option ℕ)
    → HasHeldSince P h one → HasHeldSince P h other → one ≡ other
since_unique P h one other p q = IsFirstMoment-unique h (HoldsFrom P h) one other p q

-- there is one exactly where it holds; of no record it doesn't
pub since_some : {A : Type 0} (P : List (Recorded A) → Type 0) (h : List (Recorded A)) (since : Option ℕ)
    → (P [] → ⊥) → HasHeldSince P h since → (IsSome since ↔ P h)
since_some P h (Some m) nothing (u, f, is) = ((λ _. from_holds P h u f.holds), (λ _. refl))
since_some P [] None nothing none = ((λ s. absurd (let e : false ≡ true = s in cc)), (λ p. absurd (nothing p)))
since_some P (y ∷ h) None nothing none =
    ((λ s. absurd (let e : false ≡ true = s in cc)), (λ p. absurd (none (length h) (holds_from P y h p))))

-- since when a threshold is active, after one more sample
pub active_more : (limit reclaim : ℕ) (h : List Sample) (x : Sample) (holds : Bool) (since new : Option ℕ)
    → (IsTrue holds ↔ IsActive limit reclaim (h ++ x ∷ [])) → IsActiveSince limit reclaim h since
    → new ≡ (if holds then option_or since (Some x.moment) else None) → IsActiveSince limit reclaim (h ++ x ∷ []) new
active_more limit reclaim h x true since new iff is e = rw e (since_goes_on limit reclaim h x since (iff.0 refl) is)
active_more limit reclaim h x false since new iff is e =
    rw e (inactive limit reclaim (h ++ x ∷ []) (λ a. let so : IsTrue false = iff.1 a in cc))
