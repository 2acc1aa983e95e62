-- The one value of which something holds.
use Rattle.std.proofs.Common.{◌≡◌, inl, inr, Option, Some, None, refl, sym, ap, subst}
use Rattle.std.proofs.lemmas.Option.{same_Some}
use Rattle.histories.specs.rule.TheOne.{IsTheOne}
use Rattle.histories.proofs.Decide.{OrNot}

module _ {A : Type 0} (P : A → Type 0) where
  pub IsTheOne-none : ((x : A) → P x → ⊥) → IsTheOne P None
  IsTheOne-none none x = ((λ is. absurd (cc)), (λ p. absurd (none x p)))

  pub IsTheOne-some : (x : A) → P x → ((y : A) → P y → x ≡ y) → IsTheOne P (Some x)
  IsTheOne-some x p one y = ((λ is. subst P (same_Some x y is) p), (λ q. ap (λ k. Some k) (one y q)))

  pub IsTheOne-unique : (a b : Option A) → IsTheOne P a → IsTheOne P b → a ≡ b
  IsTheOne-unique None None is is' = refl
  IsTheOne-unique (Some x) b is is' = sym ((is' x).1 ((is x).0 refl))
  IsTheOne-unique None (Some y) is is' = (is y).1 ((is' y).0 refl)

  -- where some value or none has it, and no two have
  pub IsTheOne-exists : OrNot ((x : A) × P x) → ((x y : A) → P x → P y → x ≡ y)
      → (found : Option A) × IsTheOne P found
  IsTheOne-exists (inl (x, p)) one = (Some x, IsTheOne-some x p (λ y q. one x y p q))
  IsTheOne-exists (inr none) one = (None, IsTheOne-none (λ x p. none (x, p)))
