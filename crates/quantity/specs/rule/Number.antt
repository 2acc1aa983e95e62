-- A number with a point, at the beginning of a text: the longest run of digits with at most one
-- point.
use Rattle.std.specs.Prelude.{ℕ, List, [], drop, slice_get, Bool, ◌==◌, if◌then◌else◌, unwrap_or}
use Rattle.quantity.specs.rule.Digits.{leading_digits, after_digits}

-- the digits before the point
abbrev pub whole_of : List ℕ → List ℕ
whole_of text = leading_digits text

-- a point, 46, follows them
abbrev pub has_point : List ℕ → Bool
has_point text = unwrap_or (slice_get (after_digits text) 0) 0 == 46

-- the digits after the point
abbrev pub fraction_of : List ℕ → List ℕ
fraction_of text = if has_point text then leading_digits (drop 1 (after_digits text)) else []

-- what follows the run
abbrev pub after_number : List ℕ → List ℕ
after_number text = if has_point text then after_digits (drop 1 (after_digits text)) else after_digits text
