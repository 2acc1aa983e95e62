-- What is printed of a quantity that some text writes is a text of that quantity.
use Rattle.std.proofs.Common.{◌≡◌, ◌≤◌, ◌<◌, ◌^◌, ◌⊎◌, ⊎_elim, inl, ℕ, true, false, List, arith}
use Rattle.std.specs.Prelude.{nat_lt, ◌%◌, ◌/◌}
use Rattle.std.proofs.lemmas.Bool.{cases_lt}
use Rattle.std.proofs.lemmas.Bool.Decides.{nat_tests}
use Rattle.quantity.specs.state.Printed.{quantity_text, form_count}
use Rattle.quantity.specs.rule.Quantity.{greatest_quantity}
use Rattle.quantity.specs.state.Quantity.{HasThousandths}
use Rattle.quantity.proofs.FirstForm.{first_exists, first_is_at}
use Rattle.quantity.proofs.FormMeaning.{form_at_means}
use Rattle.quantity.proofs.FormsComplete.{text_has_form}
use Rattle.quantity.proofs.Printing.{plain_reads_back}

pub written_reads_back : (text : List ℕ) (q : ℕ) → HasThousandths text q → HasThousandths (quantity_text q) q
written_reads_back text q h =
    ⊎_elim (λ (lt : q < 10 ^ 17).
    let t : nat_lt q (10 ^ 17) ≡ true = grind (arith, nat_tests) in
    rw t (plain_reads_back q (omega (arith, h.thousandths_is)) (inl lt)))
    (λ (le : 10 ^ 17 ≤ q).
    let t : nat_lt q (10 ^ 17) ≡ false = grind (arith, nat_tests) in
    let some = text_has_form text q h le in
    let first = first_exists q some.0 form_count some.2 some.3 some.1 in
    let at = first_is_at q form_count first.0 first.1 in
    let e = first.1 in
    rw (t, e) (form_at_means q at.0 first.0 at.1 at.2))
    (cases_lt q (10 ^ 17))

pub text_reads_back : (q : ℕ) → q ≤ greatest_quantity → (q < 10 ^ 17) ⊎ ((q % 1000 ≡ 0) × (q / 1000 < 10 ^ 17))
    → HasThousandths (quantity_text q) q
text_reads_back q most few = written_reads_back _ q (plain_reads_back q most few)
