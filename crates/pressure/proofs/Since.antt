-- Since when a condition has been the same, after one more observation.
use Rattle.std.proofs.Common.{◌≡◌, ◌⊎◌, inl, inr, ℕ, suc, ◌<◌, Bool, true, false, List, [], ◌∷◌, ◌++◌, length, Option}
use Rattle.std.proofs.Common.{Some, None, refl, subst, sym, ◌∙◌, arith}
use Rattle.std.specs.Prelude.{◌↔◌, IsTrue}
use Rattle.std.specs.Option.{unwrap_or}
use Rattle.std.proofs.lemmas.List.{take_all}
use Rattle.histories.specs.rule.Histories.{Recorded, up_to, HoldsAt, IsSteady, IsTransition}
use Rattle.histories.proofs.First.{IsFirstMoment-unique}
use Rattle.histories.proofs.Decide.{same_bool}
use Rattle.histories.proofs.Growth.{grows_so}
use Rattle.histories.proofs.Transitions.{Extends, IsSteady-last, transition_first, transition_stays, transition_new}
use Rattle.pressure.specs.rule.Pressures.{Observation, IsUnderPressure, IsSince}

-- what holds of a history up to a place, over one more record
extends : {A : Type 0} (P : List (Recorded A) → Type 0) (h : List (Recorded A)) (x : Recorded A)
    → Extends (length h) (HoldsAt P h) (HoldsAt P (h ++ x ∷ []))
extends P h x = record {
  old = λ t lt. (
    (grows_so P h x).old t,
    (λ s. elim ((grows_so P h x).split t s) [
      | inl old ↦ old
      | inr w ↦ let e : t ≡ length h = w.0 in
          absurd (omega arith)
    ]),
  );
}

-- at the last place it holds of the whole history
at_last : {A : Type 0} (P : List (Recorded A) → Type 0) (y : Recorded A) (h : List (Recorded A))
    → (HoldsAt P (y ∷ h) (length h) ↔ P (y ∷ h))
at_last P y h =
    let e : up_to (y ∷ h) (length h) ≡ y ∷ h = take_all (suc (length h)) (y ∷ h) (omega arith) in (
      (λ s. subst P e s.so),
      (λ p. record { within = omega arith; so = subst P (sym e) p }),
    )

at_new : {A : Type 0} (P : List (Recorded A) → Type 0) (h : List (Recorded A)) (x : Recorded A)
    → (HoldsAt P (h ++ x ∷ []) (length h) ↔ P (h ++ x ∷ []))
at_new P h x = (
  (λ s. elim ((grows_so P h x).split (length h) s) [
    | inl old ↦ let lt : length h < length h = old.within in absurd (omega arith)
    | inr w ↦ w.1
  ]),
  (grows_so P h x).new,
)

-- the values at the last two places are alike exactly if those of the two histories are
same_at : {A : Type 0} (P : List (Recorded A) → Type 0) (y : Recorded A) (h : List (Recorded A)) (x : Recorded A)
    → ((HoldsAt P ((y ∷ h) ++ x ∷ []) (length h) ↔ HoldsAt P ((y ∷ h) ++ x ∷ []) (suc (length h)))
    ↔ (P (y ∷ h) ↔ P ((y ∷ h) ++ x ∷ [])))
same_at P y h x =
    let e = (extends P (y ∷ h) x).old (length h) (omega arith) in
    let l = at_last P y h in
    let n = at_new P (y ∷ h) x in (
      (λ s. ((λ p. n.0 (s.0 (e.0 (l.1 p)))), (λ p. l.0 (e.1 (s.1 (n.1 p)))))),
      (λ s. ((λ d. n.1 (s.0 (l.0 (e.1 d)))), (λ d. e.0 (l.1 (s.1 (n.0 d)))))),
    )

-- a value that is another than before is a transition, and so is the first
pub since_new : {A : Type 0} (P : List (Recorded A) → Type 0) (h : List (Recorded A)) (x : Recorded A)
    → (h ≡ []) ⊎ ((P h ↔ P (h ++ x ∷ [])) → ⊥)
    → IsTransition (h ++ x ∷ []) (HoldsAt P (h ++ x ∷ [])) (Some x.moment)
since_new P [] x why = transition_first x (HoldsAt P (x ∷ []))
since_new P (y ∷ h) x (inl none) = absurd (cc)
since_new P (y ∷ h) x (inr other) =
    transition_new (y ∷ h) x (HoldsAt P (y ∷ h)) (HoldsAt P ((y ∷ h) ++ x ∷ [])) (length h) refl (extends P (y ∷ h) x)
    (λ s. other ((same_at P y h x).0 s))

-- the same value again leaves the moment
pub since_stays : {A : Type 0} (P : List (Recorded A) → Type 0) (h : List (Recorded A)) (x : Recorded A) (m : ℕ)
    → (P h ↔ P (h ++ x ∷ []))
    → IsTransition h (HoldsAt P h) (Some m) → IsTransition (h ++ x ∷ []) (HoldsAt P (h ++ x ∷ [])) (Some m)
since_stays P [] x m same tr = let lt : tr.0 < 0 = tr.1.holds.within in absurd (omega arith)
since_stays P (y ∷ h) x m same tr =
    transition_stays (y ∷ h) x (HoldsAt P (y ∷ h)) (HoldsAt P ((y ∷ h) ++ x ∷ [])) (length h) m refl
    (extends P (y ∷ h) x)
    ((same_at P y h x).1 same) tr

-- there is no such moment only where nothing is recorded
pub none_recorded : {A : Type 0} (P : List (Recorded A) → Type 0) (h : List (Recorded A))
    → IsTransition h (HoldsAt P h) None → h ≡ []
none_recorded P [] none = refl
none_recorded P (y ∷ h) none = absurd (none (length h) (IsSteady-last (length h) (HoldsAt P (y ∷ h))))

-- the same of two tests
pub since_changed : {A : Type 0} (P : List (Recorded A) → Type 0) (h : List (Recorded A)) (x : Recorded A)
    (was is : Bool) (since : Option ℕ)
    → (IsTrue was ↔ P h) → (IsTrue is ↔ P (h ++ x ∷ [])) → IsTransition h (HoldsAt P h) since
    → (since ≡ None) ⊎ (was ≡ is → ⊥)
    → IsTransition (h ++ x ∷ []) (HoldsAt P (h ++ x ∷ [])) (Some x.moment)
since_changed P h x was is since old new tr (inl none) =
    let Q : Option ℕ → Type 0 = λ o. IsTransition h (HoldsAt P h) o in
    since_new P h x (inl (none_recorded P h (subst Q none tr)))
since_changed P h x was is since old new tr (inr other) =
    since_new P h x (inr (λ same. other
    (same_bool was is ((λ t. new.1 (same.0 (old.0 t))), (λ t. old.1 (same.1 (new.0 t)))))))

pub since_unchanged : {A : Type 0} (P : List (Recorded A) → Type 0) (h : List (Recorded A)) (x : Recorded A)
    (was is : Bool) (since : Option ℕ)
    → (IsTrue was ↔ P h) → (IsTrue is ↔ P (h ++ x ∷ [])) → IsTransition h (HoldsAt P h) since
    → ((since ≡ None) ⊎ (was ≡ is → ⊥) → ⊥)
    → IsTransition (h ++ x ∷ []) (HoldsAt P (h ++ x ∷ [])) since
since_unchanged P h x was is None old new tr not = absurd (not (inl refl))
since_unchanged P h x was is (Some m) old new tr not =
    let e : was ≡ is = alike was is (λ ne. not (inr ne)) in
    since_stays P h x m ((λ p. new.0 (subst IsTrue e (old.1 p))), (λ p. old.0 (subst IsTrue (sym e) (new.1 p)))) tr
  where
    alike : (a b : Bool) → ((a ≡ b → ⊥) → ⊥) → a ≡ b
    alike true true nn = refl
    alike false false nn = refl
    alike true false nn = absurd (nn (λ e. cc))
    alike false true nn = absurd (nn (λ e. cc))

-- the moment that is answered
pub since_is : (period : ℕ) (h : List Observation) (o : Option ℕ)
    → IsTransition h (HoldsAt (IsUnderPressure period) h) o
    → IsSince period h (unwrap_or o 0)
since_is period h None none = inl (none_recorded (IsUnderPressure period) h none, refl)
since_is period h (Some m) tr = inr tr

-- there is one
none_steady : (period : ℕ) (h : List Observation) (t : ℕ) → h ≡ []
    → IsSteady (length h) (HoldsAt (IsUnderPressure period) h) t → ⊥
none_steady period [] t e s = let lt : t < 0 = s.within in absurd (omega arith)
none_steady period (y ∷ h) t e s = absurd (cc)

pub since_unique : (period : ℕ) (h : List Observation) (one other : ℕ) → IsSince period h one → IsSince period h other
    → one ≡ other
since_unique period h one other (inl p) (inl q) = p.1 ∙ sym q.1
since_unique period h one other (inl p) (inr q) = absurd (none_steady period h q.0 p.0 q.1.holds)
since_unique period h one other (inr p) (inl q) = absurd (none_steady period h p.0 q.0 p.1.holds)
since_unique period h one other (inr p) (inr q) =
    let e : Some one ≡ Some other = IsFirstMoment-unique h (IsSteady (length h) (HoldsAt (IsUnderPressure period) h))
    (Some one) (Some other) p q in
    cc
