-- What holds or does not, of all items of a list and of some.
use Rattle.std.proofs.Common.{◌≡◌, ◌⊎◌, inl, inr, ℕ, suc, zero, ◌<◌, ◌≤◌, Bool, true, false, List, [], ◌∷◌, Option}
use Rattle.std.proofs.Common.{Some, None, refl, subst, sym, arith}
use Rattle.std.specs.Prelude.{All, Any, IsTrue, IsSomeAnd, ◌↔◌}
use Rattle.std.specs.Bool.{Decides}
use Rattle.std.proofs.lemmas.Bool.{cases_lt}
use Rattle.std.proofs.lemmas.List.Elements.{All-nil, All-cons, All-tail}

-- P holds, or it doesn't
abbrev pub OrNot : Type 0 → Type 0
OrNot P = P ⊎ (P → ⊥)

pub of_test : {P : Type 0} (b : Bool) → Decides b P → OrNot P
of_test true d = inl (d.0 refl)
of_test false d = inr (λ p. let e : false ≡ true = d.1 p in cc)

pub negated : {P : Type 0} → OrNot P → OrNot (P → ⊥)
negated (inl p) = inr (λ n. n p)
negated (inr n) = inl n

pub both : {P Q : Type 0} → OrNot P → OrNot Q → OrNot (P × Q)
both (inl p) (inl q) = inl (p, q)
both (inl p) (inr n) = inr (λ w. n w.1)
both (inr n) q = inr (λ w. n w.0)

pub all_three : {P Q R : Type 0} → OrNot P → OrNot Q → OrNot R → OrNot (P × Q × R)
all_three (inl p) (inl q) (inl r) = inl (p, q, r)
all_three (inl p) (inl q) (inr n) = inr (λ w. n w.2)
all_three (inl p) (inr n) r = inr (λ w. n w.1)
all_three (inr n) q r = inr (λ w. n w.0)

pub implied : {P Q : Type 0} → OrNot P → OrNot Q → OrNot (P → Q)
implied p (inl q) = inl (λ x. q)
implied (inl p) (inr n) = inr (λ f. n (f p))
implied (inr m) (inr n) = inl (λ p. absurd (m p))

pub either : {P Q : Type 0} → OrNot P → OrNot Q → OrNot (P ⊎ Q)
either (inl p) q = inl (inl p)
either (inr n) (inl q) = inl (inr q)
either (inr n) (inr m) = inr (λ w. elim w [ inl p ↦ n p | inr q ↦ m q ])

-- a test says whether it holds
pub test_of : {P : Type 0} → OrNot P → (b : Bool) × (IsTrue b ↔ P)
test_of (inl p) = (true, ((λ e. p), (λ q. refl)))
test_of (inr n) = (false, ((λ e. absurd (let x : IsTrue false = e in cc)), (λ q. absurd (n q))))

pub true_or_not : (b : Bool) → OrNot (IsTrue b)
true_or_not true = inl refl
true_or_not false = inr (λ e. let x : IsTrue false = e in cc)

pub less_or_not : (m n : ℕ) → OrNot (m < n)
less_or_not m n = elim (cases_lt m n) [ inl lt ↦ inl lt | inr ge ↦ inr (λ lt. omega arith) ]

pub at_most_or_not : (m n : ℕ) → OrNot (m ≤ n)
at_most_or_not m n = elim (cases_lt n m) [ inl lt ↦ inr (λ le. omega arith) | inr ge ↦ inl ge ]

-- of what an option has
pub given_or_not : {X : Type 0} (P : X → Type 0) → ((x : X) → OrNot (P x)) → (o : Option X) → OrNot (IsSomeAnd o P)
given_or_not P each None = inr (λ w. w)
given_or_not P each (Some x) = each x

pub all_or_not : {X : Type 0} (P : X → Type 0) → ((x : X) → OrNot (P x)) → (xs : List X) → OrNot (All P xs)
all_or_not P each [] = inl (All-nil P)
all_or_not P each (x ∷ xs) = elim (each x) [
  | inl here ↦ elim (all_or_not P each xs) [
    | inl rest ↦ inl (All-cons P x xs here rest)
    | inr n
        ↦ inr (λ all. n (All-tail P x xs all))
  ]
  | inr n ↦ inr (λ all. n (all 0 x (omega arith)))
]

any_here : {X : Type 0} (P : X → Type 0) (x : X) (xs : List X) → P x → Any P (x ∷ xs)
any_here P x xs p = (zero, x, omega arith, refl, p)

any_there : {X : Type 0} (P : X → Type 0) (x : X) (xs : List X) → Any P xs → Any P (x ∷ xs)
any_there P x xs (i, y, lt, e, p) = (suc i, y, omega arith, e, p)

any_split : {X : Type 0} (P : X → Type 0) (x : X) (xs : List X) → Any P (x ∷ xs) → P x ⊎ Any P xs
any_split P x xs (zero, y, lt, e, p) = inl (subst P (sym e) p)
any_split P x xs (suc i, y, lt, e, p) = inr (i, y, omega arith, e, p)

pub any_or_not : {X : Type 0} (P : X → Type 0) → ((x : X) → OrNot (P x)) → (xs : List X) → OrNot (Any P xs)
any_or_not P each [] = inr (λ w. let lt : w.0 < 0 = w.2 in omega arith)
any_or_not P each (x ∷ xs) = elim (each x) [
  | inl here ↦ inl (any_here P x xs here)
  | inr n ↦ elim (any_or_not P each xs) [
    | inl rest ↦ inl (any_there P x xs rest)
    | inr m ↦ inr (λ any. elim (any_split P x xs any) [ inl p ↦ n p | inr q ↦ m q ])
  ]
]

-- two tests that hold alike are one value
pub same_bool : (a b : Bool) → (IsTrue a ↔ IsTrue b) → a ≡ b
same_bool true b is = sym (is.0 refl)
same_bool false true is = is.1 refl
same_bool false false is = refl
