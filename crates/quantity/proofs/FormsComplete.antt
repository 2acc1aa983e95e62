-- Where some text writes a large quantity, a form writes it.
use Rattle.std.proofs.Common.{◌≡◌, ◌≤◌, ◌<◌, ◌^◌, ◌+◌, ◌-◌, ◌*◌, ◌/◌, ◌%◌, ◌⊎◌, ⊎_elim, inl, inr, ℕ, suc, min, List}
use Rattle.std.proofs.Common.{[], ◌∷◌, ◌++◌, length, sym, ◌∙◌, ap, refl, subst, arith, Some, true, pow-add}
use Rattle.std.specs.Prelude.{Contains, codes}
use Rattle.std.specs.List.{AllByRecursion}
use Rattle.std.specs.Int.{div_ceil}
use Rattle.std.specs.Str.Parse.{digits_value}
use Rattle.std.proofs.lemmas.Bool.{cases_lt}
use Rattle.std.proofs.lemmas.List.{length-append}
use Rattle.std.proofs.lemmas.List.Elements.{All-from_recursion, All-append}
use Rattle.std.proofs.Math.Nat.{pow-suc}
use Rattle.std.specs.Char.{is_ascii_digit, digit_value}
use Rattle.quantity.specs.state.Digits.{AllDigits}
use Rattle.quantity.specs.state.Printed.{scale_at, scale_numerator, form_of, form_at, form_count, least_number}
use Rattle.quantity.specs.rule.Quantity.{greatest_quantity, thousandths_of}
use Rattle.quantity.specs.state.Quantity.{HasThousandths, IsLeastNotBelow}
use Rattle.quantity.specs.rule.Suffix.{times, divided_by}
use Rattle.quantity.specs.state.Suffix.{HasFactor, IsExponent, named_factors}
use Rattle.quantity.specs.declared.form.Form.{Form}
use Rattle.quantity.specs.declared.suffix.Factor.{Factor}
use Rattle.quantity.proofs.Decimal.{product_le, ten_mono, digit_value_is}
use Rattle.quantity.proofs.Forms.{ten_some, exact_number_found}
use Rattle.quantity.proofs.FormMeaning.{numerator_some}
use Rattle.quantity.proofs.Numbers.{digits_value_after_is, div_ceil_is_least, least_is_one}
use Rattle.quantity.proofs.QuantityMeaning.{denominator_some}
use Rattle.quantity.proofs.Suffixes.{factor_reads}

-- some form writes the quantity
abbrev pub HasForm : ℕ → Type 0
HasForm q = (place : ℕ) × (place < form_count) × (form : Form) × (form_at q place ≡ Some form)

form_found : (q places place number : ℕ) → 0 < q → places ≤ 17 → place < 13 → number < 10 ^ 17
    → thousandths_of number places (times (scale_numerator (scale_at place))) ≡ q → HasForm q
form_found q places place number pos few known small value =
    let up : (13 * places + place) / 13 ≡ places = omega (arith, known) in
    let rest : (13 * places + place) % 13 ≡ place = omega (arith, known) in
    let found = exact_number_found q places (scale_numerator (scale_at place)) number pos
    (numerator_some (scale_at place)) small value in (
      13 * places + place,
      omega (arith, few, known),
      form_of places (scale_at place)
          (least_number q places (scale_numerator (scale_at place))),
      rw (up, rest, found) refl,
    )

-- The factors: powers of ten, and those of the binary scales.

abbrev Kind : Factor → Type 0
Kind factor =
    ((k : ℕ) × (k ≤ 18) × (factor ≡ times (10 ^ k))) ⊎
    (((k : ℕ) × (k ≤ 18) × (factor ≡ divided_by (10 ^ k))) ⊎
    ((place : ℕ) × (place < 13) × (factor ≡ times (scale_numerator (scale_at place)))))

each_kind : AllByRecursion (λ (e : List ℕ × Factor). Kind e.1) named_factors
each_kind = (
  inl (0, omega arith, refl),
  (
    inr (inl (9, omega arith, refl)),
    (
      inr (inl (6, omega arith, refl)),
      (
        inr (inl (3, omega arith, refl)),
        (
          inl (3, omega arith, refl),
          (
            inl (6, omega arith, refl),
            (
              inl (9, omega arith, refl),
              (
                inl (12, omega arith, refl),
                (
                  inl (15, omega arith, refl),
                  (
                    inl (18, omega arith, refl),
                    (
                      inr (inr (12, omega arith, refl)),
                      (
                        inr (inr (11, omega arith, refl)),
                        (
                          inr (inr (10, omega arith, refl)),
                          (
                            inr (inr (9, omega arith, refl)),
                            (
                              inr (inr (8, omega arith, refl)),
                              (
                                inr (inr (7, omega arith, refl)),
                                tt,
                              ),
                            ),
                          ),
                        ),
                      ),
                    ),
                  ),
                ),
              ),
            ),
          ),
        ),
      ),
    ),
  ),
)

kind_of_named : (suffix : List ℕ) (factor : Factor) → Contains named_factors (suffix, factor) → Kind factor
kind_of_named suffix factor at =
    let P : List ℕ × Factor → Type 0 = λ e. Kind e.1 in
    subst P at.2 (All-from_recursion P named_factors each_kind at.0 (suffix, factor) at.1)

kind_of : (suffix : List ℕ) (factor : Factor) → HasFactor suffix factor → Kind factor
kind_of suffix factor has =
    ⊎_elim (λ (named : Contains named_factors (suffix, factor)). kind_of_named suffix factor named)
    (λ (e : IsExponent suffix factor).
    ⊎_elim (λ (up : ((e.sign ≡ []) ⊎ (e.sign ≡ codes "+")) × (factor ≡ times (10 ^ digits_value 10 e.digits))). inl
    (digits_value 10 e.digits, e.at_most, up.1))
    (λ (down : (e.sign ≡ codes "-") × (factor ≡ divided_by (10 ^ digits_value 10 e.digits))). inr
    (inl (digits_value 10 e.digits, e.at_most, down.1)))
    e.factor_is)
    has

-- A power of ten: the value is the number with zeros after it, or no larger than the number.

ceil_is : (a b m : ℕ) → 0 < b → a ≡ m * b → div_ceil a b ≡ m
ceil_is a b m some is =
    let given : IsLeastNotBelow m a b = record {
      not_below = omega (arith, is);
      least = λ n enough. ⊎_elim (λ (lt : n < m).
          let more : (n + 1) * b ≤ m * b = product_le (n + 1) b m b (omega (arith, lt)) (omega arith) in
          let parts : (n + 1) * b ≡ n * b + b = omega arith in
          absurd (omega (arith, more, parts, enough, is, some)))
          (λ (le : m ≤ n). le) (cases_lt n m);
    } in
    least_is_one (div_ceil a b) m a b (div_ceil_is_least a b some) given

zeros_after : (number places zeros scale : ℕ) → 10 ^ zeros * 10 ^ places ≡ 1000 * scale
    → div_ceil (1000 * number * scale) (10 ^ places * 1) ≡ number * 10 ^ zeros
zeros_after number places zeros scale is =
    let some = ten_some places in
    let both : number * (10 ^ zeros * 10 ^ places) ≡ number * (1000 * scale) = ap (λ t. number * t) is in
    ceil_is (1000 * number * scale) (10 ^ places * 1) (number * 10 ^ zeros) (omega (arith, some)) (omega (arith, both))

no_larger : (number a b : ℕ) → 0 < b → a ≤ number * b → div_ceil a b ≤ number
no_larger number a b some enough = (div_ceil_is_least a b some).least number enough

-- thousands with zeros after them
with_zeros : (q number zeros : ℕ) → 10 ^ 17 ≤ q → q ≤ greatest_quantity → number < 10 ^ 17 → 1 ≤ zeros → zeros ≤ 21
    → min (number * 10 ^ zeros) greatest_quantity ≡ q → HasForm q
with_zeros q number zeros large most small some few value =
    ⊎_elim (λ (lt : zeros < 4).
    let sum : zeros + (3 - zeros) ≡ 3 = omega (arith, lt) in
    let power : 10 ^ zeros * 10 ^ (3 - zeros) ≡ 1000 * 1 = sym (pow-add 10 zeros (3 - zeros)) ∙ ap (λ k. 10 ^ k) sum in
    let is = zeros_after number (3 - zeros) zeros 1 power in
    form_found q (3 - zeros) 0 number (omega (arith, large)) (omega arith) (omega arith) small (rw is value))
    (λ (le : 4 ≤ zeros).
    let sum : zeros + (21 - zeros) ≡ 21 = omega (arith, few) in
    let power : 10 ^ zeros * 10 ^ (21 - zeros) ≡ 1000 * 10 ^ 18 = sym (pow-add 10 zeros (21 - zeros))
    ∙ ap (λ k. 10 ^ k) sum in
    let is = zeros_after number (21 - zeros) zeros (10 ^ 18) power in
    form_found q (21 - zeros) 1 number (omega (arith, large)) (omega (arith, le)) (omega arith) small (rw is value))
    (cases_lt zeros 4)

multiplied : (q number places k : ℕ) → 10 ^ 17 ≤ q → q ≤ greatest_quantity → number < 10 ^ 17 → places ≤ 17 → k ≤ 18
    → thousandths_of number places (times (10 ^ k)) ≡ q → HasForm q
multiplied q number places k large most small few high value =
    let thousand : 10 ^ (3 + k) ≡ 1000 * 10 ^ k = pow-add 10 3 k in
    let unit = ten_some places in
    ⊎_elim (λ (lt : places < 3 + k).
    let sum : (3 + k - places) + places ≡ 3 + k = omega (arith, lt) in
    let power : 10 ^ (3 + k - places) * 10 ^ places ≡ 1000 * 10 ^ k = sym (pow-add 10 (3 + k - places) places)
    ∙ ap (λ j. 10 ^ j) sum ∙ thousand in
    let is = zeros_after number places (3 + k - places) (10 ^ k) power in
    with_zeros q number (3 + k - places) large most small (omega (arith, lt)) (omega (arith, high)) (rw is at value))
    (λ (le : 3 + k ≤ places).
    let more : 10 ^ (3 + k) ≤ 10 ^ places = ten_mono (3 + k) places le in
    let product : number * 10 ^ (3 + k) ≤ number * 10 ^ places = product_le number (10 ^ (3 + k)) number (10 ^ places)
    (omega arith) more in
    let same : number * 10 ^ (3 + k) ≡ number * (1000 * 10 ^ k) = ap (λ t. number * t) thousand in
    let low = no_larger number (1000 * number * 10 ^ k) (10 ^ places * 1) (omega (arith, unit))
    (omega (arith, product, same)) in
    absurd (omega (arith, low, value, large, small)))
    (cases_lt places (3 + k))

divided : (q number places k : ℕ) → 10 ^ 17 ≤ q → number < 10 ^ 17
    → thousandths_of number places (divided_by (10 ^ k)) ≡ q → HasForm q
divided q number places k large small value =
    let joined : 10 ^ places * 10 ^ k ≡ 10 ^ (places + k) = sym (pow-add 10 places k) in
    let unit = ten_some (places + k) in
    ⊎_elim (λ (lt : places + k < 3).
    let value' : thousandths_of number (places + k) (times 1) ≡ q =
    (let same : 10 ^ (places + k) * 1 ≡ 10 ^ places * 10 ^ k = omega (arith, joined) in rw same value) in
    form_found q (places + k) 0 number (omega (arith, large)) (omega (arith, lt)) (omega arith) small value')
    (λ (le : 3 ≤ places + k).
    let more : 10 ^ 3 ≤ 10 ^ (places + k) = ten_mono 3 (places + k) le in
    let product : number * 10 ^ 3 ≤ number * 10 ^ (places + k) = product_le number (10 ^ 3) number (10 ^ (places + k))
    (omega arith) more in
    let same : number * (10 ^ places * 10 ^ k) ≡ number * 10 ^ (places + k) = ap (λ t. number * t) joined in
    let low = no_larger number (1000 * number * 1) (10 ^ places * 10 ^ k) (omega (arith, unit, joined))
    (omega (arith, product, same)) in
    absurd (omega (arith, low, value, large, small)))
    (cases_lt (places + k) 3)

kind_has_form : (q number places : ℕ) (factor : Factor) → 10 ^ 17 ≤ q → q ≤ greatest_quantity → number < 10 ^ 17
    → places ≤ 17 → Kind factor → thousandths_of number places factor ≡ q → HasForm q
kind_has_form q number places factor large most small few kind value =
    ⊎_elim (λ (up : (k : ℕ) × (k ≤ 18) × (factor ≡ times (10 ^ k))). multiplied q number places up.0 large most small
    few up.1 (rw up.2 at value))
    (λ (other : ((k : ℕ) × (k ≤ 18) × (factor ≡ divided_by (10 ^ k))) ⊎ ((place : ℕ) × (place < 13)
    × (factor ≡ times (scale_numerator (scale_at place))))).
    ⊎_elim (λ (down : (k : ℕ) × (k ≤ 18) × (factor ≡ divided_by (10 ^ k))). divided q number places down.0 large small
    (rw down.2 at value))
    (λ (binary : (place : ℕ) × (place < 13) × (factor ≡ times (scale_numerator (scale_at place)))). form_found q
    places binary.0 number (omega (arith, large)) few binary.1 small (rw binary.2 at value))
    other)
    kind

-- digits write a number below the power of ten
digits_below : (digits : List ℕ) → AllDigits digits → digits_value 10 digits < 10 ^ length digits
digits_below [] all = omega arith
digits_below (c ∷ cs) all =
    let here = digit_value_is c (all 0 0 (omega arith)) in
    let rest = digits_below cs (λ k d lt. all (suc k) d (omega (arith, lt))) in
    let after = digits_value_after_is (0 + digit_value c) cs in
    let p : 10 ^ suc (length cs) ≡ 10 ^ length cs * 10 = pow-suc 10 (length cs) in
    let nine : digit_value c ≤ 9 = omega (arith, here.0, here.2) in
    let product : (0 + digit_value c) * 10 ^ length cs ≤ 9 * 10 ^ length cs = product_le (0 + digit_value c)
    (10 ^ length cs) 9 (10 ^ length cs) (omega (arith, nine)) (omega arith) in
    rw (p, after) (omega (arith, product, rest))

pub text_has_form : (text : List ℕ) (q : ℕ) → HasThousandths text q → 10 ^ 17 ≤ q → HasForm q
text_has_form text q h large =
    let all : AllDigits (h.whole ++ h.fraction) = All-append (λ byte. is_ascii_digit byte ≡ true) h.whole h.fraction
    h.whole_digits h.fraction_digits in
    let size = length-append h.whole h.fraction in
    let below = digits_below (h.whole ++ h.fraction) all in
    let few : length (h.whole ++ h.fraction) ≤ 17 = omega (arith, size, h.few_digits) in
    let high = ten_mono (length (h.whole ++ h.fraction)) 17 few in
    let small : digits_value 10 (h.whole ++ h.fraction) < 10 ^ 17 = omega (arith, below, high) in
    let reads = factor_reads h.suffix h.factor h.scaled in
    let unit = denominator_some (length h.fraction) h.factor reads.scale in
    let ceil = div_ceil_is_least (1000 * digits_value 10 (h.whole ++ h.fraction) * h.factor.numerator)
    (10 ^ length h.fraction * h.factor.denominator) unit in
    let same = least_is_one h.exact _ _ _ h.exact_is ceil in
    let value : thousandths_of (digits_value 10 (h.whole ++ h.fraction)) (length h.fraction) h.factor ≡ q =
    rw (← same) (sym h.thousandths_is) in
    kind_has_form q (digits_value 10 (h.whole ++ h.fraction)) (length h.fraction) h.factor large
    (omega (arith, h.thousandths_is)) small (omega (arith, h.few_digits)) (kind_of h.suffix h.factor h.scaled) value
