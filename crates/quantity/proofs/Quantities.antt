-- A number and its suffix, once the number has its digits.
use Rattle.std.proofs.Common.{◌≡◌, ◌≤◌, ◌<◌, ℕ, false, List, length, arith, Ok, Err, Some, None}
use Rattle.std.specs.Prelude.{◌==◌, nat_lt}
use Rattle.std.proofs.lemmas.Bool.Decides.{nat_tests}
use Rattle.quantity.specs.rule.Number.{whole_of, fraction_of, after_number}
use Rattle.quantity.specs.rule.Suffix.{factor_of, suffix_fault}
use Rattle.quantity.specs.rule.Quantity.{scaled_number_of, digit_count, number_value, thousandths_of}
use Rattle.quantity.specs.declared.suffix.Factor.{Factor}

pub scaled_number_none : (text : List ℕ) → 0 < digit_count text → digit_count text ≤ 17
    → factor_of (after_number text) ≡ None → scaled_number_of text ≡ Err (suffix_fault (after_number text))
unfolding scaled_number_of
scaled_number_none text some few none =
    let here : (digit_count text == 0) ≡ false = grind (arith, nat_tests) in
    let fits : nat_lt 17 (digit_count text) ≡ false = grind (arith, nat_tests) in
    rw (here, fits, none)

pub scaled_number_some : (text : List ℕ) (factor : Factor) → 0 < digit_count text → digit_count text ≤ 17
    → factor_of (after_number text) ≡ Some factor
    → scaled_number_of text ≡ Ok (thousandths_of (number_value (whole_of text) (fraction_of text))
    (length (fraction_of text)) factor)
unfolding scaled_number_of
scaled_number_some text factor some few is =
    let here : (digit_count text == 0) ≡ false = grind (arith, nat_tests) in
    let fits : nat_lt 17 (digit_count text) ≡ false = grind (arith, nat_tests) in
    rw (here, fits, is)
