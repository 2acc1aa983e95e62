-- Digits with zeros before them.
use Rattle.std.proofs.Common.{◌≡◌, ◌≢◌, ◌-◌, ℕ, true, false, List, [], ◌++◌, length, refl, arith}
use Rattle.std.specs.Prelude.{◌==◌, decimal, replicate}
use Rattle.std.specs.Fmt.{styled_decimal, padded_integral, format_spec, char_count}
use Rattle.std.proofs.lemmas.Bool.Decides.{nat_tests}
use Rattle.std.proofs.lemmas.List.{append-nil}
use Rattle.quantity.specs.state.Printed.{zero_padded}

padded_zeros : (places : ℕ) (numeral : List ℕ) → padded_integral (format_spec 32 0 4 places 18446744073709551615)
    false [] numeral ≡ replicate (places - length numeral) 48 ++ numeral
unfolding padded_integral char_count
padded_zeros places numeral =
    let e : places - length numeral - 0 - 0 ≡ places - length numeral = omega arith in
    rw (e, append-nil numeral) refl

pub styled_zeros : (places n : ℕ) → places ≢ 0 → styled_decimal (format_spec 32 0 4 places 18446744073709551615)
    n ≡ zero_padded places n
styled_zeros places n some =
    let t : (places == 0) ≡ false = grind (arith, nat_tests) in
    rw t (padded_zeros places (decimal n))

pub is_zero : (n : ℕ) → n ≡ 0 → (n == 0) ≡ true
is_zero n h = grind (arith, nat_tests)

pub is_not_zero : (n : ℕ) → n ≢ 0 → (n == 0) ≡ false
is_not_zero n h = grind (arith, nat_tests)
