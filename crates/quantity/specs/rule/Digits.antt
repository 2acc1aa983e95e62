-- Runs of decimal digits.
use Rattle.std.specs.Prelude.{ℕ, List}
use Rattle.std.specs.List.{take_while, prefix_len}
use Rattle.std.specs.Prelude.{drop}
use Rattle.std.specs.Char.{is_ascii_digit}

-- the digits that a text begins with
abbrev pub leading_digits : List ℕ → List ℕ
leading_digits text = take_while is_ascii_digit text

-- what follows them
abbrev pub after_digits : List ℕ → List ℕ
after_digits text = drop (prefix_len is_ascii_digit text) text
