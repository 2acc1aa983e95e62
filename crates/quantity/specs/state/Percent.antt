-- What a percentage means: the texts that have hundredths, the fault of each that has none, and what is printed
-- (Kubernetes, "Node-pressure Eviction", "Eviction thresholds").
use Rattle.std.specs.Prelude.{◌≡◌, ◌≢◌, ◌<◌, ◌∷◌, slice_index, false, ℕ, ◌+◌, ◌*◌, ◌/◌, ◌^◌, ◌≤◌, ◌⊎◌, List, []}
use Rattle.std.specs.Prelude.{◌++◌, length, ◌==◌, ◌%◌}
use Rattle.std.specs.Prelude.{if◌then◌else◌, codes, decimal}
use Rattle.std.specs.Char.{is_ascii_digit}
use Rattle.std.specs.Str.Parse.{digits_value}
use Rattle.quantity.specs.state.Digits.{AllDigits}
use Rattle.quantity.specs.declared.fault.QuantityFault.{QuantityFault}
use Rattle.quantity.specs.declared.fault.QuantityFault.TheVariants.{Empty, BadDigit, BadSuffix, TooManyDigits}
use Rattle.quantity.specs.declared.fault.QuantityFault.TheVariants.{Negative}

-- What a text means: 1 to 3 digits, perhaps a point with 1 or 2 digits, and `%`. The hundredths are
-- 100 times the number before the sign, and at most 10000.
pub record HasHundredths (text : List ℕ) (hundredths : ℕ) : Type 0 where
  pub whole : List ℕ
  pub point : List ℕ
  pub fraction : List ℕ
  pub text_is : text ≡ whole ++ (point ++ (fraction ++ codes "%"))
  pub whole_digits : AllDigits whole
  pub fraction_digits : AllDigits fraction
  pub some_whole : (1 ≤ length whole) × (length whole ≤ 3)
  pub some_fraction : ((point ≡ []) × (fraction ≡ [])) ⊎ ((point ≡ codes ".") × (1 ≤ length fraction)
      × (length fraction ≤ 2))
  pub value : hundredths * 10 ^ length fraction ≡ 100 * digits_value 10 (whole ++ fraction)
  pub at_most : hundredths ≤ 10000

-- Why a text has no value: the first fault that holds.

-- a text from its first byte on: digits, perhaps a point and digits, and what follows, which goes
-- on with none of them
pub record HasParts (text whole point fraction rest : List ℕ) : Type 0 where
  pub text_is : text ≡ whole ++ (point ++ (fraction ++ rest))
  pub whole_digits : AllDigits whole
  pub fraction_digits : AllDigits fraction
  pub point_is : ((point ≡ []) × (fraction ≡ []) × (slice_index rest 0 ≢ 46)) ⊎ (point ≡ codes ".")
  pub no_more_digits : is_ascii_digit (slice_index rest 0) ≡ false

-- no digit at the beginning, or none after the point; else more than 3 before it or 2 after it;
-- else another rest than `%`; else a number above 100
abbrev pub HasPartsFault : List ℕ → List ℕ → List ℕ → List ℕ → QuantityFault → Type 0
HasPartsFault whole point fraction rest fault =
    (((length whole ≡ 0) ⊎ ((point ≡ codes ".") × (length fraction ≡ 0))) × (fault ≡ BadDigit)) ⊎
    ((0 < length whole) × (point ≡ codes "." → 0 < length fraction) ×
    ((((3 < length whole) ⊎ (2 < length fraction)) × (fault ≡ TooManyDigits)) ⊎
    ((length whole ≤ 3) × (length fraction ≤ 2) ×
    (((rest ≢ codes "%") × (fault ≡ BadSuffix)) ⊎
    ((rest ≡ codes "%") × (10000 * 10 ^ length fraction < 100 * digits_value 10 (whole ++ fraction))
    × (fault ≡ TooManyDigits))))))

pub record HasNumberFault (text : List ℕ) (fault : QuantityFault) : Type 0 where
  pub whole : List ℕ
  pub point : List ℕ
  pub fraction : List ℕ
  pub rest : List ℕ
  pub parts : HasParts text whole point fraction rest
  pub fault_is : HasPartsFault whole point fraction rest fault

-- the text is empty; it begins with `-`, 45; or its number or what follows has a fault
abbrev pub HasPercentFault : List ℕ → QuantityFault → Type 0
HasPercentFault text fault =
    ((text ≡ []) × (fault ≡ Empty)) ⊎
    (((rest : List ℕ) × (text ≡ 45 ∷ rest) × (fault ≡ Negative)) ⊎
    ((0 < length text) × (slice_index text 0 ≢ 45) × HasNumberFault text fault))

-- What is printed of a percentage: no digit after the point, or two.
abbrev pub percent_text : ℕ → List ℕ
percent_text hundredths =
    if hundredths % 100 == 0
    then decimal (hundredths / 100) ++ codes "%"
    else decimal (hundredths / 100)
    ++ (codes "." ++ (decimal (hundredths / 10 % 10) ++ (decimal (hundredths % 10) ++ codes "%")))
