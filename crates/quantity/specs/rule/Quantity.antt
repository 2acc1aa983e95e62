-- Quantities, as `1.5Gi`, `100m` and `1e3`, in thousandths of a unit (Kubernetes, "Resource
-- Management for Pods and Containers", "Resource units in Kubernetes").
use Rattle.std.specs.Prelude.{ℕ, ◌+◌, ◌*◌, ◌-◌, ◌^◌, min, List}
use Rattle.std.specs.Prelude.{length, drop, slice_index, Result, Ok, nat_lt, ◌==◌, if◌then◌else◌}
use Rattle.std.specs.Int.{div_ceil}
use Rattle.std.specs.Str.Parse.{digits_value}
use Rattle.quantity.specs.rule.Number.{whole_of, fraction_of, after_number}
use Rattle.quantity.specs.rule.Suffix.{factor_of, suffix_fault}
use Rattle.quantity.specs.rule.Steps.{◌>>=◌, refused_if, some_or}
use Rattle.quantity.specs.declared.suffix.Factor.{Factor}
use Rattle.quantity.specs.declared.fault.QuantityFault.{QuantityFault}
use Rattle.quantity.specs.declared.fault.QuantityFault.TheVariants.{Empty, BadDigit, TooManyDigits, Negative}

-- no quantity is larger, in thousandths
abbrev pub greatest_quantity : ℕ
greatest_quantity = 1000 * (2 ^ 63 - 1)

-- the text without a plus: `+` is 43
abbrev pub after_plus : List ℕ → List ℕ
after_plus text = if slice_index text 0 == 43 then drop 1 text else text

-- how many digits the number has
abbrev pub digit_count : List ℕ → ℕ
digit_count text = length (whole_of text) + length (fraction_of text)

-- the number that the digits before and behind the point make, without the point
abbrev pub number_value : List ℕ → List ℕ → ℕ
number_value whole fraction = digits_value 10 whole * 10 ^ length fraction + digits_value 10 fraction

-- a number of which this many digits stand behind the point, times a factor, in thousandths: rounded up, and no more
-- than the greatest quantity
abbrev pub thousandths_of : ℕ → ℕ → Factor → ℕ
thousandths_of number places factor =
    min (div_ceil (1000 * number * factor.numerator) (10 ^ places * factor.denominator)) greatest_quantity

-- a number and its suffix
unfoldable pub scaled_number_of : List ℕ → Result ℕ QuantityFault
scaled_number_of text = do
  _ ← refused_if (digit_count text == 0) BadDigit
  _ ← refused_if (nat_lt 17 (digit_count text)) TooManyDigits
  factor ← some_or (suffix_fault (after_number text)) (factor_of (after_number text))
  Ok (thousandths_of (number_value (whole_of text) (fraction_of text)) (length (fraction_of text)) factor)

unfoldable pub quantity_of : List ℕ → Result ℕ QuantityFault
quantity_of text = do
  _ ← refused_if (length text == 0) Empty
  _ ← refused_if (slice_index text 0 == 45) Negative
  scaled_number_of (after_plus text)
