-- Durations, as `1h`, `1m30s` and `0` (Kubernetes, "Node-pressure Eviction", "Soft eviction
-- thresholds": `evictionSoftGracePeriod`).
use Rattle.std.specs.Prelude.{ℕ, ◌+◌, ◌*◌, ◌^◌, List, [], ◌∷◌}
use Rattle.std.specs.Prelude.{length, slice_get, Option, Some, None, option_and_then, Result, Ok, Err, nat_lt, nat_le}
use Rattle.std.specs.Prelude.{◌==◌, if◌then◌else◌, codes}
use Rattle.std.specs.List.{prefix_len}
use Rattle.std.specs.Char.{is_ascii_digit}
use Rattle.std.specs.Str.Parse.{digits_value}
use Rattle.std.specs.Str.{bytes_eq}
use Rattle.quantity.specs.rule.Digits.{leading_digits}
use Rattle.quantity.specs.rule.Steps.{◌>>=◌, refused_if, some_or}
use Rattle.quantity.specs.declared.fault.QuantityFault.{QuantityFault}
use Rattle.quantity.specs.declared.fault.QuantityFault.TheVariants.{Empty, BadDigit, BadSuffix, TooManyDigits}

-- every moment and every duration is below this many seconds
abbrev pub end_of_time : ℕ
end_of_time = 2 ^ 40

-- the seconds of a unit: `h` is 104, `m` 109 and `s` 115
abbrev pub unit_seconds : ℕ → Option ℕ
unit_seconds unit =
    if unit == 104 then Some 3600 else if unit == 109 then Some 60 else if unit == 115 then Some 1 else None

-- a byte put before the first of the pieces
abbrev pub joined : ℕ → List (List ℕ) → List (List ℕ)
joined byte [] = (byte ∷ []) ∷ []
joined byte (piece ∷ pieces) = (byte ∷ piece) ∷ pieces

-- the text cut after each byte that is no digit
abbrev pub pieces_of : List ℕ → List (List ℕ)
pieces_of [] = []
pieces_of (byte ∷ text) = if is_ascii_digit byte then joined byte (pieces_of text) else (byte ∷ []) ∷ pieces_of text

-- the seconds of one piece, which begins a text or is the whole of it
abbrev pub piece_seconds : List ℕ → Result ℕ QuantityFault
piece_seconds piece = do
  _ ← refused_if (prefix_len is_ascii_digit piece == 0) BadDigit
  _ ← refused_if (nat_lt 12 (prefix_len is_ascii_digit piece)) TooManyDigits
  unit ← some_or BadSuffix (option_and_then unit_seconds (slice_get piece (prefix_len is_ascii_digit piece)))
  Ok (digits_value 10 (leading_digits piece) * unit)

-- the sum of the pieces, after what came before them
abbrev pub sum_onto : ℕ → List (List ℕ) → Result ℕ QuantityFault
sum_onto sum [] = Ok sum
sum_onto sum (piece ∷ pieces) = do
  seconds ← piece_seconds piece
  _ ← refused_if (nat_le end_of_time (sum + seconds)) TooManyDigits
  sum_onto (sum + seconds) pieces

-- the seconds of a duration, or the first fault
unfoldable pub duration_of : List ℕ → Result ℕ QuantityFault
duration_of text =
    if length text == 0 then Err Empty else if bytes_eq text (codes "0") then Ok 0 else sum_onto 0 (pieces_of text)
