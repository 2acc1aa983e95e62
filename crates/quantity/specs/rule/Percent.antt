-- Percentages, as `10%` and `12.5%` (Kubernetes, "Node-pressure Eviction", "Eviction thresholds").
use Rattle.std.specs.Prelude.{slice_index, ℕ, ◌+◌, ◌*◌, ◌-◌, ◌/◌, ◌^◌, List}
use Rattle.std.specs.Prelude.{length, Result, Ok, not, ◌&&◌, ◌||◌, nat_lt, ◌==◌, ◌%◌}
use Rattle.std.specs.Prelude.{codes}
use Rattle.std.specs.Str.Parse.{digits_value}
use Rattle.std.specs.Str.{bytes_eq}
use Rattle.quantity.specs.rule.Number.{whole_of, has_point, fraction_of, after_number}
use Rattle.quantity.specs.rule.Steps.{◌>>=◌, refused_if}
use Rattle.quantity.specs.declared.fault.QuantityFault.{QuantityFault}
use Rattle.quantity.specs.declared.fault.QuantityFault.TheVariants.{Empty, BadDigit, BadSuffix, TooManyDigits}
use Rattle.quantity.specs.declared.fault.QuantityFault.TheVariants.{Negative}

-- the number in hundredths, of at most 2 digits after the point
abbrev pub hundredths_of : List ℕ → List ℕ → ℕ
hundredths_of whole fraction = digits_value 10 whole * 100 + digits_value 10 fraction * 10 ^ (2 - length fraction)

unfoldable pub percent_of : List ℕ → Result ℕ QuantityFault
percent_of text = do
  _ ← refused_if (length text == 0) Empty
  _ ← refused_if (slice_index text 0 == 45) Negative
  _ ← refused_if (length (whole_of text) == 0 || (has_point text && length (fraction_of text) == 0)) BadDigit
  _ ← refused_if (nat_lt 3 (length (whole_of text)) || nat_lt 2 (length (fraction_of text))) TooManyDigits
  _ ← refused_if (not (bytes_eq (after_number text) (codes "%"))) BadSuffix
  _ ← refused_if (nat_lt 10000 (hundredths_of (whole_of text) (fraction_of text))) TooManyDigits
  Ok (hundredths_of (whole_of text) (fraction_of text))

-- a percentage of a capacity, rounded down
abbrev pub share_of : ℕ → ℕ → ℕ
share_of hundredths capacity = capacity * hundredths / 10000
