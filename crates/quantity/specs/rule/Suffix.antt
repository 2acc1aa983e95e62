-- The suffix of a quantity: which texts are one, and by what factor it scales (Kubernetes,
-- "Resource Management for Pods and Containers", "Resource units in Kubernetes").
use Rattle.std.specs.Prelude.{ℕ, ◌^◌, List, [], ◌∷◌, length, drop, slice_index, Option}
use Rattle.std.specs.Prelude.{Some, None, option_map, Bool, ◌&&◌, ◌||◌, nat_le, ◌==◌, if◌then◌else◌}
use Rattle.std.specs.Str.Parse.{digits_value}
use Rattle.quantity.specs.rule.Digits.{after_digits}
use Rattle.quantity.specs.declared.suffix.Factor.{Factor}
use Rattle.quantity.specs.declared.fault.QuantityFault.{QuantityFault}
use Rattle.quantity.specs.declared.fault.QuantityFault.TheVariants.{BadSuffix, Exponent}

-- a factor of n
abbrev pub times : ℕ → Factor
times n = record { numerator = n; denominator = 1 }

-- a factor of 1 / n
abbrev pub divided_by : ℕ → Factor
divided_by n = record { numerator = 1; denominator = n }

-- what a table has for a letter
abbrev pub factor_for : List (ℕ × Factor) → ℕ → Option Factor
factor_for [] letter = None
factor_for (entry ∷ others) letter = if letter == entry.0 then Some entry.1 else factor_for others letter

-- one letter: `n` is 110, `u` 117, `m` 109, `k` 107, `M` 77, `G` 71, `T` 84, `P` 80 and `E` 69
abbrev pub decimal_factors : List (ℕ × Factor)
decimal_factors =
    (110, divided_by (10 ^ 9)) ∷ (117, divided_by (10 ^ 6)) ∷ (109, divided_by (10 ^ 3)) ∷
    (107, times (10 ^ 3)) ∷ (77, times (10 ^ 6)) ∷ (71, times (10 ^ 9)) ∷
    (84, times (10 ^ 12)) ∷ (80, times (10 ^ 15)) ∷ (69, times (10 ^ 18)) ∷ []

abbrev pub decimal_factor : ℕ → Option Factor
decimal_factor letter = factor_for decimal_factors letter

-- the letter before `i`: `K` is 75
abbrev pub binary_factors : List (ℕ × Factor)
binary_factors =
    (75, times (2 ^ 10)) ∷ (77, times (2 ^ 20)) ∷ (71, times (2 ^ 30)) ∷
    (84, times (2 ^ 40)) ∷ (80, times (2 ^ 50)) ∷ (69, times (2 ^ 60)) ∷ []

abbrev pub binary_factor : ℕ → Option Factor
binary_factor letter = factor_for binary_factors letter

-- ten to the power that one or two digits write, up to 18
abbrev pub power_of : List ℕ → Option ℕ
power_of digits =
    if (length digits == 1 || length digits == 2) &&
    (length (after_digits digits) == 0 && nat_le (digits_value 10 digits) 18)
    then Some (10 ^ digits_value 10 digits)
    else None

-- what follows the `e`: `-` is 45 and `+` 43
abbrev pub exponent_factor : List ℕ → Option Factor
exponent_factor text =
    if slice_index text 0 == 45 then option_map divided_by (power_of (drop 1 text))
    else if slice_index text 0 == 43 then option_map times (power_of (drop 1 text))
    else option_map times (power_of text)

-- a suffix begins as an exponent: `e` is 101, and `E` 69
abbrev pub begins_exponent : List ℕ → Bool
begins_exponent suffix = slice_index suffix 0 == 101 || slice_index suffix 0 == 69

-- the factor of a suffix: `i` is 105
unfoldable pub factor_of : List ℕ → Option Factor
factor_of suffix =
    if length suffix == 0 then Some (times 1)
    else if length suffix == 1 then decimal_factor (slice_index suffix 0)
    else if length suffix == 2 && slice_index suffix 1 == 105 then binary_factor (slice_index suffix 0)
    else if begins_exponent suffix then exponent_factor (drop 1 suffix)
    else None

-- the fault of an unknown suffix
abbrev pub suffix_fault : List ℕ → QuantityFault
suffix_fault suffix = if begins_exponent suffix then Exponent else BadSuffix
