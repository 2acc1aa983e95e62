-- What is found by going through the places of a history, each of which has it or has not.
use Rattle.std.proofs.Common.{◌≡◌, ◌⊎◌, inl, inr, ℕ, zero, suc, ◌<◌, ◌≤◌, List, [], ◌∷◌, ◌++◌, length, get_or, Option}
use Rattle.std.proofs.Common.{Some, None, refl, arith}
use Rattle.std.proofs.lemmas.Bool.{cases_lt, cases_eq}
use Rattle.histories.specs.rule.Histories.{Recorded, up_to, HoldsAt, IsFirst, IsFirstPlace, IsFirstMoment, ComesTrue}
use Rattle.histories.specs.rule.Histories.{IsSteady, IsTransition}
use Rattle.histories.specs.rule.Picked.{ArePicked}
use Rattle.histories.proofs.Decide.{OrNot, negated, implied, less_or_not, at_most_or_not}
use Rattle.histories.proofs.First.{none_next, IsFirst-unique}
use Rattle.histories.proofs.Items.{pushed_each}
use Rattle.histories.proofs.Moments.{moment_within}
use Rattle.histories.proofs.Places.{length-more}

-- the first of the places below a number, or none of them
first_below : (P : ℕ → Type 0) → ((t : ℕ) → OrNot (P t)) → (n : ℕ)
    → ((t : ℕ) × IsFirst P t) ⊎ ((t : ℕ) → t < n → P t → ⊥)
first_below P each zero = inr (λ t lt p. omega arith)
first_below P each (suc n) = elim (first_below P each n) [
  | inl w ↦ inl w
  | inr none ↦ elim (each n) [
    | inl here ↦ inl (n, record { holds = here; none_before = none })
    | inr not ↦ inr (λ t lt p. none_next P n none not t (omega arith) p)
  ]
]

-- some place below a number, or none
pub some_below : (P : ℕ → Type 0) → ((t : ℕ) → OrNot (P t)) → (n : ℕ) → OrNot ((t : ℕ) × (t < n) × P t)
some_below P each n = elim (first_below P each n) [
  | inl w ↦ elim (cases_lt w.0 n) [
    | inl lt ↦ inl (w.0, lt, w.1.holds)
    | inr ge ↦ inr (λ (t, lt, p). w.1.none_before t (omega arith) p)
  ]
  | inr none ↦ inr (λ (t, lt, p). none t lt p)
]

-- all places below a number, or not all
pub all_below : (P : ℕ → Type 0) → ((t : ℕ) → OrNot (P t)) → (n : ℕ) → OrNot ((t : ℕ) → t < n → P t)
all_below P each n = elim (some_below (λ t. P t → ⊥) (λ t. negated (each t)) n) [
  | inl w ↦ inr (λ all. w.2 (all w.0 w.1))
  | inr none ↦ inl (λ t lt. elim (each t) [ inl p ↦ p | inr not ↦ absurd (none (t, lt, not)) ])
]

-- the first place of what holds below a number alone, and its moment
pub first_place : (P : ℕ → Type 0) → ((t : ℕ) → OrNot (P t)) → (n : ℕ) → ((t : ℕ) → P t → t < n)
    → (o : Option ℕ) × IsFirstPlace P o
first_place P each n below = elim (first_below P each n) [
  | inl w ↦ (Some w.0, w.1)
  | inr none ↦ (None, (λ t p. none t (below t p) p))
]

pub first_moment : {A : Type 0} (h : List (Recorded A)) (P : ℕ → Type 0) → ((t : ℕ) → OrNot (P t))
    → ((t : ℕ) → P t → t < length h) → (o : Option ℕ) × IsFirstMoment h P o
first_moment h P each below = elim (first_below P each (length h)) [
  | inl w ↦ let m = moment_within h w.0 (below w.0 w.1.holds) in (Some m.0, (w.0, w.1, m.1))
  | inr none ↦ (None, (λ t p. none t (below t p) p))
]

-- there is a first place, or none
pub first_or_none : (P : ℕ → Type 0) → (o : Option ℕ) × IsFirstPlace P o → OrNot ((t : ℕ) × IsFirst P t)
first_or_none P (Some t, first) = inl (t, first)
first_or_none P (None, none) = inr (λ w. none w.0 w.1.holds)

-- a place is the first, or not
pub first_or_not : (P : ℕ → Type 0) → (o : Option ℕ) × IsFirstPlace P o → (t : ℕ) → OrNot (IsFirst P t)
first_or_not P (Some u, first) t = elim (cases_eq t u) [
  | inl e ↦ inl (rw e first)
  | inr not ↦ inr (λ f. not (IsFirst-unique P t u f first))
]
first_or_not P (None, none) t = inr (λ f. none t f.holds)

-- of the history up to a place, and of it up to some place
pub so_or_not : {A : Type 0} (P : List (Recorded A) → Type 0) → ((h : List (Recorded A)) → OrNot (P h))
    → (h : List (Recorded A)) (t : ℕ) → OrNot (HoldsAt P h t)
so_or_not P each h t = elim (less_or_not t (length h)) [
  | inl lt ↦ elim (each (up_to h t)) [ inl p ↦ inl (record { within = lt; so = p }) | inr not ↦ inr (λ s. not s.so) ]
  | inr not ↦ inr (λ s. not s.within)
]

pub once_or_never : {A : Type 0} (P : List (Recorded A) → Type 0) → ((h : List (Recorded A)) → OrNot (P h))
    → (h : List (Recorded A)) → OrNot ((t : ℕ) × HoldsAt P h t)
once_or_never P each h = elim (some_below (HoldsAt P h) (so_or_not P each h) (length h)) [
  | inl w ↦ inl (w.0, w.2)
  | inr none ↦ inr (λ w. none (w.0, w.1.within, w.1))
]

-- the first place up to which it holds, and whether it comes true at a place
pub first_so : {A : Type 0} (P : List (Recorded A) → Type 0) → ((h : List (Recorded A)) → OrNot (P h))
    → (h : List (Recorded A)) → (o : Option ℕ) × IsFirstPlace (HoldsAt P h) o
first_so P each h = first_place (HoldsAt P h) (so_or_not P each h) (length h) (λ t s. s.within)

pub comes_or_not : {A : Type 0} (P : List (Recorded A) → Type 0) → ((h : List (Recorded A)) → OrNot (P h))
    → (h : List (Recorded A)) (t : ℕ) → OrNot (ComesTrue P h t)
comes_or_not P each h t = first_or_not (HoldsAt P h) (first_so P each h) t

-- C stays from one place to another, of those from place u on
abbrev Stays : (ℕ → Type 0) → ℕ → ℕ → ℕ → Type 0
Stays C u v w = u ≤ v → u ≤ w → C v → C w

stays_or_not : (C : ℕ → Type 0) → ((t : ℕ) → OrNot (C t)) → (u v w : ℕ) → OrNot (Stays C u v w)
stays_or_not C each u v w = implied (at_most_or_not u v) (implied (at_most_or_not u w) (implied (each v) (each w)))

steady_or_not : (n : ℕ) (C : ℕ → Type 0) → ((t : ℕ) → OrNot (C t)) → (u : ℕ) → OrNot (IsSteady n C u)
steady_or_not n C each u = elim (less_or_not u n) [
  | inl lt ↦ elim (all_below _ (λ v. all_below (Stays C u v) (stays_or_not C each u v) n) n) [
    | inl all ↦ inl (record { within = lt; same = λ v w lv v< lw w< c. all v v< w w< lv lw c })
    | inr not ↦ inr (λ s. not (λ v v< w w< lv lw c. s.same v w lv v< lw w< c))
  ]
  | inr not ↦ inr (λ s. not s.within)
]

-- the moment of the last transition, if there is a record
pub transition_of : {A : Type 0} (h : List (Recorded A)) (C : ℕ → Type 0) → ((t : ℕ) → OrNot (C t))
    → (o : Option ℕ) × IsTransition h C o
transition_of h C each = first_moment h (IsSteady (length h) C) (steady_or_not (length h) C each) (λ t s. s.within)

-- what is picked of a list
pub picked_of : {A : Type 0} (P : ℕ → Type 0) → ((t : ℕ) → OrNot (P t)) → (xs : List A)
    → (picked : List A) × ArePicked P xs picked
picked_of P each [] = ([], refl)
picked_of P each (x ∷ xs) =
    let rest = picked_of (λ t. P (suc t)) (λ t. each (suc t)) xs in
    elim (each 0) [
      | inl here ↦ (x ∷ rest.0, inl (here, (rest.0, rest.1, refl)))
      | inr not ↦ (rest.0, inr (not, rest.1))
    ]

-- where each place below a number has an item there is a list of them
pub list_of : {A : Type 0} (P : ℕ → A → Type 0) (n : ℕ) → ((k : ℕ) → k < n → (x : A) × P k x)
    → (xs : List A) × (length xs ≡ n) × ((k : ℕ) (d : A) → k < n → P k (get_or xs k d))
list_of P zero each = ([], refl, (λ k d lt. absurd (omega arith)))
list_of P (suc n) each =
    let rest = list_of P n (λ k lt. each k (omega arith)) in
    let last = each n (omega arith) in (
      rest.0 ++ last.0 ∷ [],
      omega (arith, length-more rest.0 last.0, rest.1),
      (λ k d lt. pushed_each P rest.0 last.0 n rest.1 rest.2 last.1 k d (omega arith)),
    )
