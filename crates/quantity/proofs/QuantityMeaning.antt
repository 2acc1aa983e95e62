-- A quantity is read as what it means.
use Rattle.std.proofs.Common.{◌≡◌, ◌≢◌, ◌≤◌, ◌<◌, ◌^◌, ◌+◌, ◌*◌, ◌⊎◌, ⊎_elim, inl, inr, ℕ, suc, min, true, false}
use Rattle.std.proofs.Common.{List, [], ◌∷◌, ◌++◌, length, get_or, sym, ◌∙◌, ap, refl, arith, Ok, Some}
use Rattle.std.specs.Prelude.{slice_index, ◌==◌, codes, nat_lt}
use Rattle.std.specs.Char.{is_ascii_digit}
use Rattle.std.specs.Int.{div_ceil}
use Rattle.std.specs.Str.Parse.{digits_value}
use Rattle.std.proofs.lemmas.Bool.Decides.{nat_tests, eqb_tells}
use Rattle.quantity.specs.state.Digits.{AllDigits}
use Rattle.quantity.specs.rule.Number.{whole_of, has_point, fraction_of, after_number}
use Rattle.quantity.specs.rule.Quantity.{greatest_quantity, digit_count, number_value}
use Rattle.quantity.specs.state.Quantity.{HasThousandths, IsLeastNotBelow}
use Rattle.quantity.specs.rule.Quantity.{thousandths_of, scaled_number_of, quantity_of}
use Rattle.quantity.specs.rule.Suffix.{factor_of}
use Rattle.quantity.specs.state.Suffix.{IsInBounds}
use Rattle.quantity.specs.declared.suffix.Factor.{Factor}
use Rattle.quantity.proofs.Decimal.{digit_value_is, leading_are_digits, product_le}
use Rattle.quantity.proofs.Numbers.{parts_with_point, parts_without_point, digits_value-append, div_ceil_is_least}
use Rattle.quantity.proofs.Numbers.{least_is_one, number_split}
use Rattle.quantity.proofs.StepsPassed.{passed, had}
use Rattle.quantity.proofs.Quantities.{scaled_number_some}
use Rattle.quantity.proofs.Suffixes.{Reads, factor_reads, factor_means}
use Rattle.std.proofs.Math.Nat.{one-le-pow}

-- From what it means to what is read.

-- the parts that are read of a text
pub record IsSplitInto (text whole fraction rest : List ℕ) : Type 0 where
  pub whole_is : whole_of text ≡ whole
  pub fraction_is : fraction_of text ≡ fraction
  pub rest_is : after_number text ≡ rest

split_of : (whole point fraction suffix : List ℕ) (factor : Factor) → AllDigits whole → AllDigits fraction
    → ((point ≡ []) × (fraction ≡ [])) ⊎ (point ≡ codes ".") → Reads suffix factor
    → IsSplitInto (whole ++ (point ++ (fraction ++ suffix))) whole fraction suffix
split_of whole point fraction suffix factor all more is reads =
    ⊎_elim (λ (none : (point ≡ []) × (fraction ≡ [])).
    let p = parts_without_point whole suffix all reads.no_digit reads.no_point in
    let r : IsSplitInto (whole ++ (point ++ (fraction ++ suffix))) whole fraction suffix =
    rw (none.0, none.1) (record { whole_is = p.0; fraction_is = p.1; rest_is = p.2 }) in r)
    (λ (e : point ≡ codes ".").
    let p = parts_with_point whole fraction suffix all more reads.no_digit in
    let r : IsSplitInto (whole ++ (point ++ (fraction ++ suffix))) whole fraction suffix =
    rw e (record { whole_is = p.0; fraction_is = p.1; rest_is = p.2 }) in r)
    is

-- the first byte of a number
record BeginsNumber (text : List ℕ) : Type 0 where
  some : 0 < length text
  no_plus : get_or text 0 0 ≢ 43
  no_minus : get_or text 0 0 ≢ 45

digit_no_sign : (c : ℕ) → is_ascii_digit c ≡ true → (c ≢ 43) × (c ≢ 45)
digit_no_sign c h =
    let low : 48 ≤ c = (digit_value_is c h).1 in
    (λ e. omega (arith, e, low), λ e. omega (arith, e, low))

begins_digit : (c : ℕ) (rest : List ℕ) → is_ascii_digit c ≡ true → BeginsNumber (c ∷ rest)
begins_digit c rest h = let d = digit_no_sign c h in record { some = omega arith; no_plus = d.0; no_minus = d.1 }

begins_point : (rest : List ℕ) → BeginsNumber (46 ∷ rest)
begins_point rest = record {
  some = omega arith;
  no_plus = λ h. absurd (omega (arith, h));
  no_minus = λ h. absurd (omega (arith, h));
}

begins : (whole point rest : List ℕ) → AllDigits whole → (length whole ≡ 0 → point ≡ codes ".")
    → BeginsNumber (whole ++ (point ++ rest))
begins [] point rest all is = let e : point ≡ codes "." = is refl in rw e (begins_point rest)
begins (c ∷ whole) point rest all is = begins_digit c (whole ++ (point ++ rest)) (all 0 0 (omega arith))

quantity_plain : (text : List ℕ) → BeginsNumber text → quantity_of text ≡ scaled_number_of text
unfolding quantity_of
quantity_plain text b =
    let some : 0 < length text = b.some in
    let plus : get_or text 0 0 ≢ 43 = b.no_plus in
    let minus : get_or text 0 0 ≢ 45 = b.no_minus in
    let one : (length text == 0) ≡ false = grind (arith, nat_tests) in
    let two : (slice_index text 0 == 45) ≡ false = grind (arith, nat_tests) in
    let three : (slice_index text 0 == 43) ≡ false = grind (arith, nat_tests) in
    rw (one, two, three)

pub quantity_plus : (text : List ℕ) → quantity_of (43 ∷ text) ≡ scaled_number_of text
unfolding quantity_of
quantity_plus text =
    let one : (suc (length text) == 0) ≡ false = grind (arith, nat_tests) in
    rw one

pub denominator_some : (places : ℕ) (factor : Factor) → IsInBounds factor → 0 < 10 ^ places * factor.denominator
denominator_some places factor scale =
    let ten : 0 < 10 = omega arith in
    product_le 1 1 (10 ^ places) factor.denominator (one-le-pow places 10 ten) scale.positive

value_is : (whole fraction : List ℕ) (factor : Factor) (exact : ℕ) → IsInBounds factor
    → IsLeastNotBelow exact (1000 * digits_value 10 (whole ++ fraction) * factor.numerator)
    (10 ^ length fraction * factor.denominator) → thousandths_of (number_value whole fraction) (length fraction)
    factor ≡ min exact greatest_quantity
value_is whole fraction factor exact scale least =
    let joined = digits_value-append whole fraction in
    let ceil = div_ceil_is_least (1000 * digits_value 10 (whole ++ fraction) * factor.numerator)
    (10 ^ length fraction * factor.denominator) (denominator_some (length fraction) factor scale) in
    let same = least_is_one exact _ _ _ least ceil in
    rw (← joined, ← same)

scaled_is : (text whole fraction suffix : List ℕ) (factor : Factor) (exact : ℕ)
    → IsSplitInto text whole fraction suffix → 1 ≤ length whole + length fraction
    → length whole + length fraction ≤ 17 → Reads suffix factor
    → IsLeastNotBelow exact (1000 * digits_value 10 (whole ++ fraction) * factor.numerator)
    (10 ^ length fraction * factor.denominator) → scaled_number_of text ≡ Ok (min exact greatest_quantity)
scaled_is text whole fraction suffix factor exact split some few reads least =
    let some' : 0 < digit_count text = rw (split.whole_is, split.fraction_is) some in
    let few' : digit_count text ≤ 17 = rw (split.whole_is, split.fraction_is) few in
    let read : factor_of (after_number text) ≡ Some factor = rw split.rest_is reads.read in
    let s = scaled_number_some text factor some' few' read in
    let t : scaled_number_of text ≡ Ok (thousandths_of (number_value whole fraction) (length fraction) factor) =
    rw (split.whole_is, split.fraction_is) at s in
    t ∙ ap Ok (value_is whole fraction factor exact reads.scale least)

pub quantity_complete : (text : List ℕ) (thousandths : ℕ) → HasThousandths text thousandths
    → quantity_of text ≡ Ok thousandths
quantity_complete text thousandths h =
    let reads = factor_reads h.suffix h.factor h.scaled in
    let split = split_of h.whole h.point h.fraction h.suffix h.factor h.whole_digits h.fraction_digits h.point_is
    reads in
    let read = scaled_is (h.whole ++ (h.point ++ (h.fraction ++ h.suffix))) h.whole h.fraction h.suffix h.factor
    h.exact split h.some_digit h.few_digits reads h.exact_is in
    let dot : length h.whole ≡ 0 → h.point ≡ codes "." =
    λ none. ⊎_elim (λ (e : (h.point ≡ []) × (h.fraction ≡ [])). let z : length h.fraction ≡ 0 = (rw e.1 refl) in
    absurd (omega (arith, h.some_digit, z, none))) (λ (e : h.point ≡ codes "."). e) h.point_is in
    ⊎_elim (λ (none : h.plus ≡ []).
    let r : quantity_of text ≡ Ok thousandths = rw (h.text_is, none, h.thousandths_is)
    (quantity_plain (h.whole ++ (h.point ++ (h.fraction ++ h.suffix)))
    (begins h.whole h.point (h.fraction ++ h.suffix) h.whole_digits dot) ∙ read) in r)
    (λ (plus : h.plus ≡ codes "+").
    let r : quantity_of text ≡ Ok thousandths = rw (h.text_is, plus, h.thousandths_is)
    (quantity_plus (h.whole ++ (h.point ++ (h.fraction ++ h.suffix))) ∙ read) in r)
    h.plus_is

-- From what is read to what it means.

scaled_means : (plus text : List ℕ) (thousandths : ℕ) (factor : Factor) → (plus ≡ []) ⊎ (plus ≡ codes "+")
    → 1 ≤ digit_count text → digit_count text ≤ 17 → factor_of (after_number text) ≡ Some factor
    → thousandths_of (number_value (whole_of text) (fraction_of text)) (length (fraction_of text))
    factor ≡ thousandths → HasThousandths (plus ++ text) thousandths
scaled_means plus text thousandths factor is some few read value =
    let split = number_split text (has_point text) refl in
    let scaled = factor_means (after_number text) factor read in
    let reads = factor_reads (after_number text) factor scaled in
    let least = div_ceil_is_least (1000 * digits_value 10 (whole_of text ++ fraction_of text) * factor.numerator)
    (10 ^ length (fraction_of text) * factor.denominator)
    (denominator_some (length (fraction_of text)) factor reads.scale) in
    let same = value_is (whole_of text) (fraction_of text) factor _ reads.scale least in
    record {
      plus = plus;
      whole = whole_of text;
      point = split.point;
      fraction = fraction_of text;
      suffix = after_number text;
      factor = factor;
      text_is = ap (λ t. plus ++ t) split.text_is;
      plus_is = is;
      whole_digits = leading_are_digits text;
      fraction_digits = split.fraction_digits;
      some_digit = some;
      few_digits = few;
      point_is = ⊎_elim (λ e. inl (e.0, e.1)) (λ e. inr e.0) split.point_is;
      scaled = scaled;
      exact = div_ceil (1000 * digits_value 10 (whole_of text ++ fraction_of text) * factor.numerator)
          (10 ^ length (fraction_of text) * factor.denominator);
      exact_is = least;
      thousandths_is = sym value ∙ same;
    }

pub scaled_sound : (plus text : List ℕ) (thousandths : ℕ) → (plus ≡ []) ⊎ (plus ≡ codes "+")
    → scaled_number_of text ≡ Ok thousandths → HasThousandths (plus ++ text) thousandths
unfolding scaled_number_of
scaled_sound plus text thousandths is h =
    let a = passed (digit_count text == 0) _ _ thousandths h in
    let b = passed (nat_lt 17 (digit_count text)) _ _ thousandths a.1 in
    let f = had (factor_of (after_number text)) _ _ thousandths b.1 in
    let none : (digit_count text == 0) ≡ false = a.0 in
    let fits : nat_lt 17 (digit_count text) ≡ false = b.0 in
    let some : 1 ≤ digit_count text = grind (arith, nat_tests) in
    let few : digit_count text ≤ 17 = grind (arith, nat_tests) in
    scaled_means plus text thousandths f.0 is some few f.1 (let e = f.2 in cc)

pub quantity_sound : (text : List ℕ) (thousandths : ℕ) → quantity_of text ≡ Ok thousandths
    → HasThousandths text thousandths
unfolding quantity_of
quantity_sound [] thousandths h = absurd (cc)
quantity_sound (c ∷ text) thousandths h =
    let a = passed (suc (length text) == 0) _ _ thousandths h in
    let b = passed (c == 45) _ _ thousandths a.1 in
    ⊎_elim (λ (t : ((c == 43) ≡ true) × (c ≡ 43)). rw t.1
    (scaled_sound (codes "+") text thousandths (inr refl) (rw t.0 at b.1)))
    (λ (f : ((c == 43) ≡ false) × (c ≢ 43)). scaled_sound [] (c ∷ text) thousandths (inl refl) (rw f.0 at b.1))
    (eqb_tells c 43)

-- a text has one value
pub thousandths_are_one : (text : List ℕ) (m n : ℕ) → HasThousandths text m → HasThousandths text n → m ≡ n
thousandths_are_one text m n one two =
    let a = quantity_complete text m one in
    let b = quantity_complete text n two in
    cc
