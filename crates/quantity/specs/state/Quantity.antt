-- What a quantity means: the texts that have thousandths, and the fault of each that has none (Kubernetes, "Resource
-- Management for Pods and Containers", "Resource units in Kubernetes").
use Rattle.std.specs.Prelude.{◌≡◌, ◌≢◌, ◌<◌, ◌∷◌, count_by, ℕ, ◌+◌, ◌*◌, ◌^◌, ◌≤◌, ◌⊎◌, min, List, [], ◌++◌}
use Rattle.std.specs.Prelude.{length, slice_index, codes}
use Rattle.std.specs.Char.{is_ascii_digit}
use Rattle.std.specs.Str.Parse.{digits_value}
use Rattle.quantity.specs.state.Digits.{AllDigits}
use Rattle.quantity.specs.state.Number.{IsLongestRun}
use Rattle.quantity.specs.rule.Suffix.{suffix_fault}
use Rattle.quantity.specs.state.Suffix.{HasFactor}
use Rattle.quantity.specs.declared.suffix.Factor.{Factor}
use Rattle.quantity.specs.declared.fault.QuantityFault.{QuantityFault}
use Rattle.quantity.specs.declared.fault.QuantityFault.TheVariants.{Empty, BadDigit, TooManyDigits, Negative}
use Rattle.quantity.specs.rule.Quantity.{greatest_quantity, after_plus}

-- What a text means.

-- m is the least whole number that is not below a / b
pub record IsLeastNotBelow (m a b : ℕ) : Type 0 where
  pub not_below : a ≤ m * b
  pub least : (n : ℕ) → a ≤ n * b → m ≤ n

-- Perhaps a plus, a number of 1 to 17 digits with at most one point, and a suffix. The number is
-- its digits divided by ten for each digit after the point. The thousandths are the least whole
-- number that is not below 1000 times number times factor, and the greatest quantity where that is
-- more.
pub record HasThousandths (text : List ℕ) (thousandths : ℕ) : Type 0 where
  pub plus : List ℕ
  pub whole : List ℕ
  pub point : List ℕ
  pub fraction : List ℕ
  pub suffix : List ℕ
  pub factor : Factor
  pub text_is : text ≡ plus ++ (whole ++ (point ++ (fraction ++ suffix)))
  pub plus_is : (plus ≡ []) ⊎ (plus ≡ codes "+")
  pub whole_digits : AllDigits whole
  pub fraction_digits : AllDigits fraction
  pub some_digit : 1 ≤ length whole + length fraction
  pub few_digits : length whole + length fraction ≤ 17
  pub point_is : ((point ≡ []) × (fraction ≡ [])) ⊎ (point ≡ codes ".")
  pub scaled : HasFactor suffix factor
  pub exact : ℕ
  pub exact_is : IsLeastNotBelow exact (1000 * digits_value 10 (whole ++ fraction) * factor.numerator)
      (10 ^ length fraction * factor.denominator)
  pub thousandths_is : thousandths ≡ min exact greatest_quantity

-- A number and its suffix: the number has no digit; it has more than 17; or no factor belongs to
-- what follows it.
pub record HasNumberFault (text : List ℕ) (fault : QuantityFault) : Type 0 where
  pub run : List ℕ
  pub rest : List ℕ
  pub longest_run : IsLongestRun text run rest
  pub fault_is :
      ((count_by is_ascii_digit run ≡ 0) × (fault ≡ BadDigit)) ⊎
      (((17 < count_by is_ascii_digit run) × (fault ≡ TooManyDigits)) ⊎
      ((0 < count_by is_ascii_digit run) × (count_by is_ascii_digit run ≤ 17)
      × ((factor : Factor) → ¬ HasFactor rest factor) × (fault ≡ suffix_fault rest)))

-- the text is empty; it begins with `-`, 45; or the fault is that of what follows the plus, if
-- there is one
abbrev pub HasQuantityFault : List ℕ → QuantityFault → Type 0
HasQuantityFault text fault =
    ((text ≡ []) × (fault ≡ Empty)) ⊎
    (((rest : List ℕ) × (text ≡ 45 ∷ rest) × (fault ≡ Negative)) ⊎
    ((0 < length text) × (slice_index text 0 ≢ 45) × HasNumberFault (after_plus text) fault))
