-- What a suffix means: which texts have a factor, and its bounds (Kubernetes, "Resource Management for Pods and
-- Containers", "Resource units in Kubernetes").
use Rattle.std.specs.Prelude.{◌≡◌, ℕ, ◌^◌, ◌<◌, ◌≤◌, ◌⊎◌, List, [], ◌∷◌, ◌++◌, length}
use Rattle.std.specs.Prelude.{codes, Contains}
use Rattle.std.specs.Str.Parse.{digits_value}
use Rattle.quantity.specs.state.Digits.{AllDigits}
use Rattle.quantity.specs.declared.suffix.Factor.{Factor}
use Rattle.quantity.specs.rule.Suffix.{times, divided_by}

-- What a suffix means.

-- the suffixes that are names
abbrev pub named_factors : List (List ℕ × Factor)
named_factors =
    (codes "", times 1) ∷
    (codes "n", divided_by (10 ^ 9)) ∷
    (codes "u", divided_by (10 ^ 6)) ∷
    (codes "m", divided_by (10 ^ 3)) ∷
    (codes "k", times (10 ^ 3)) ∷
    (codes "M", times (10 ^ 6)) ∷
    (codes "G", times (10 ^ 9)) ∷
    (codes "T", times (10 ^ 12)) ∷
    (codes "P", times (10 ^ 15)) ∷
    (codes "E", times (10 ^ 18)) ∷
    (codes "Ki", times (2 ^ 10)) ∷
    (codes "Mi", times (2 ^ 20)) ∷
    (codes "Gi", times (2 ^ 30)) ∷
    (codes "Ti", times (2 ^ 40)) ∷
    (codes "Pi", times (2 ^ 50)) ∷
    (codes "Ei", times (2 ^ 60)) ∷ []

-- `e` or `E`, perhaps a sign, and one or two digits: a power of ten from -18 to 18
pub record IsExponent (suffix : List ℕ) (factor : Factor) : Type 0 where
  pub letter : List ℕ
  pub sign : List ℕ
  pub digits : List ℕ
  pub suffix_is : suffix ≡ letter ++ (sign ++ digits)
  pub letter_is : (letter ≡ codes "e") ⊎ (letter ≡ codes "E")
  pub all_digits : AllDigits digits
  pub one_or_two : (1 ≤ length digits) × (length digits ≤ 2)
  pub at_most : digits_value 10 digits ≤ 18
  pub factor_is : (((sign ≡ []) ⊎ (sign ≡ codes "+")) × (factor ≡ times (10 ^ digits_value 10 digits)))
      ⊎ ((sign ≡ codes "-") × (factor ≡ divided_by (10 ^ digits_value 10 digits)))

abbrev pub HasFactor : List ℕ → Factor → Type 0
HasFactor suffix factor = Contains named_factors (suffix, factor) ⊎ IsExponent suffix factor

-- the bounds of every factor
pub record IsInBounds (factor : Factor) : Type 0 where
  pub small : factor.numerator ≤ 2 ^ 60
  pub positive : 0 < factor.denominator
  pub fine : factor.denominator ≤ 10 ^ 18
