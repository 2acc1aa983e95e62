-- The moment of the last record, and moments that rise.
use Rattle.std.proofs.Common.{◌≡◌, ◌∙◌, ◌⊎◌, inl, inr, ℕ, suc, zero, ◌-◌, ◌<◌, List, [], ◌∷◌, ◌++◌, length, take}
use Rattle.std.proofs.Common.{Option, Some, None, refl, sym, subst, arith}
use Rattle.std.specs.Prelude.{IfSome}
use Rattle.std.proofs.lemmas.Bool.{cases_lt}
use Rattle.std.proofs.lemmas.List.{length-take-le}
use Rattle.histories.specs.rule.Histories.{Recorded, moment_at, last_moment}
use Rattle.histories.specs.state.Histories.{IsRising, EndsBefore}
use Rattle.histories.proofs.Places.{length-more, moment_at-new, moment_at-below}

-- the last moment is that of the new record
pub last_moment-more : {A : Type 0} (h : List (Recorded A)) (x : Recorded A) → last_moment (h ++ x ∷ []) ≡ Some x.moment
last_moment-more h x =
    let last : length h ≡ length (h ++ x ∷ []) - 1 = omega (arith, length-more h x) in
    let P : ℕ → Type 0 = λ t. moment_at (h ++ x ∷ []) t ≡ Some x.moment in
    subst P last (moment_at-new h x)

-- a place has a moment
pub moment_within : {A : Type 0} (h : List (Recorded A)) (t : ℕ) → t < length h → (m : ℕ) × (moment_at h t ≡ Some m)
moment_within [] t lt = absurd (omega arith)
moment_within (y ∷ h) zero lt = (y.moment, refl)
moment_within (y ∷ h) (suc t) lt = moment_within h t (omega arith)

-- a moment was recorded before, or is that of the new record
moment_split : {A : Type 0} (h : List (Recorded A)) (x : Recorded A) (t m : ℕ) → moment_at (h ++ x ∷ []) t ≡ Some m
    → (moment_at h t ≡ Some m) ⊎ ((t ≡ length h) × (x.moment ≡ m))
moment_split [] x zero m e = inr (refl, cc)
moment_split [] x (suc t) m e = absurd (cc)
moment_split (y ∷ h) x zero m e = inl e
moment_split (y ∷ h) x (suc t) m e = elim (moment_split h x t m e) [
  | inl old ↦ inl old
  | inr w
      ↦ inr (omega (arith, w.0), w.1)
]

one_moment : {A : Type 0} (h : List (Recorded A)) (t u m n : ℕ) → t ≡ u → moment_at h t ≡ Some m
    → moment_at h u ≡ Some n → m ≡ n
one_moment h t u m n same e f =
    let P : ℕ → Type 0 = λ v. moment_at h v ≡ Some m in
    let both : Some m ≡ Some n = sym (subst P same e) ∙ f in
    cc

-- each moment of a rising history that ends before a moment is before it
pub all_before : {A : Type 0} (h : List (Recorded A)) (t m moment : ℕ) → IsRising h → EndsBefore h moment
    → moment_at h t ≡ Some m → m < moment
all_before h t m moment rising before e =
    let below : t < length h = moment_at-below h t m e in
    let last = moment_within h (length h - 1) (omega arith) in
    let Q : Option ℕ → Type 0 = λ o. IfSome o (λ n. n < moment) in
    let lt : last.0 < moment = subst Q last.1 before in
    elim (cases_lt t (length h - 1)) [
      | inl earlier ↦ let le : m < last.0 = rising t (length h - 1) m last.0 earlier e last.1 in omega arith
      | inr ge ↦ let same : m ≡ last.0 = one_moment h t (length h - 1) m last.0 (omega arith) e last.1 in omega arith
    ]

-- one more record, later than the last one
pub IsRising-more : {A : Type 0} (h : List (Recorded A)) (x : Recorded A) → IsRising h → EndsBefore h x.moment
    → IsRising (h ++ x ∷ [])
IsRising-more h x rising before t u m n lt e f = elim (moment_split h x t m e) [
  | inl old ↦ elim (moment_split h x u n f) [
    | inl older ↦ rising t u m n lt old older
    | inr w ↦ let is : x.moment ≡ n = w.1 in let less : m < x.moment = all_before h t m x.moment rising before old in
        omega arith
  ]
  | inr w ↦
      let here : t ≡ length h = w.0 in
      let below : u < length (h ++ x ∷ []) = moment_at-below (h ++ x ∷ []) u n f in
      absurd (omega (arith, length-more h x))
]

pub moment_at-take : {A : Type 0} (h : List (Recorded A)) (n t m : ℕ) → moment_at (take n h) t ≡ Some m
    → moment_at h t ≡ Some m
moment_at-take h zero t m e = absurd (cc)
moment_at-take [] (suc n) t m e = absurd (cc)
moment_at-take (y ∷ h) (suc n) zero m e = e
moment_at-take (y ∷ h) (suc n) (suc t) m e = moment_at-take h n t m e

-- what comes before a place of a rising history ends before its moment
pub ends_before : {A : Type 0} (h : List (Recorded A)) (t moment : ℕ) → IsRising h → moment_at h t ≡ Some moment
    → EndsBefore (take t h) moment
ends_before h t moment rising e = last (last_moment (take t h)) (λ m is. is)
  where
    within : t < length h
    within = moment_at-below h t moment e

    last : (o : Option ℕ) → ((m : ℕ) → o ≡ Some m → last_moment (take t h) ≡ Some m) → IfSome o (λ n. n < moment)
    last None is = tt
    last (Some m) is =
        let at : last_moment (take t h) ≡ Some m = is m refl in
        let below : length (take t h) - 1 < length (take t h) = moment_at-below (take t h) (length (take t h) - 1) m
        at in
        rising (length (take t h) - 1) t m moment (omega (arith, below, length-take-le t h (omega (arith, within))))
        (moment_at-take h t (length (take t h) - 1) m at) e
