-- Texts of decimal digits alone.
use Rattle.std.specs.Prelude.{ℕ, List}
use Rattle.std.specs.List.{AllPass}
use Rattle.std.specs.Char.{is_ascii_digit}

-- each byte is a decimal digit
abbrev pub AllDigits : List ℕ → Type 0
AllDigits text = AllPass is_ascii_digit text
