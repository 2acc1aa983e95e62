-- Whether a list has an item twice, with one item more.
use Rattle.std.proofs.Common.{◌≡◌, ◌∙◌, ℕ, ◌==◌, ◌||◌, Bool, true, false, List, [], ◌∷◌, ◌++◌, refl, ap, sym}
use Rattle.std.specs.List.{list_any}
use Rattle.std.proofs.lemmas.Bool.{eqb-true, eqb-false, eq-eqb}
use Rattle.std.proofs.lemmas.List.Folds.{list_any-append}
use Rattle.trace.specs.rule.Placing.{has_twice}

differ : (t : Bool) → (t ≡ true → ⊥) → false ≡ t
differ true h = absurd (h refl)
differ false h = refl

turned_as : (a b : ℕ) (t : Bool) → (a == b) ≡ t → t ≡ (b == a)
turned_as a b true e = sym (eq-eqb b a (sym (eqb-true a b e)))
turned_as a b false e = differ (b == a) (λ is. eqb-false a b e (sym (eqb-true b a is)))

pub turned : (a b : ℕ) → (a == b) ≡ (b == a)
turned a b = turned_as a b (a == b) refl

mixed : (a b c d : Bool) → ((a || (b || false)) || (c || d)) ≡ ((a || c) || (b || d))
mixed true b c d = refl
mixed false true true d = refl
mixed false true false d = refl
mixed false false c d = refl

-- it makes an item stand twice where one like it stands before
pub twice_more : {A : Type 0} (are : A → A → Bool) → ((a b : A) → are a b ≡ are b a) → (xs : List A) (x : A)
    → has_twice are (xs ++ x ∷ []) ≡ (has_twice are xs || list_any (λ y. are y x) xs)
twice_more are turned [] x = refl
twice_more are turned (y ∷ ys) x =
    ap (λ (b : Bool). b || has_twice are (ys ++ x ∷ [])) (list_any-append (λ z. are z y) ys (x ∷ []))
    ∙ ap (λ (b : Bool). (list_any (λ z. are z y) ys || (are x y || false)) || b) (twice_more are turned ys x)
    ∙ ap (λ (b : Bool). (list_any (λ z. are z y) ys || (b || false))
    || (has_twice are ys || list_any (λ z. are z x) ys)) (turned x y)
    ∙ mixed (list_any (λ z. are z y) ys) (are y x) (has_twice are ys) (list_any (λ z. are z x) ys)
