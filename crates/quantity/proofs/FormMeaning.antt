-- What a form prints of a quantity is a text of that quantity.
use Rattle.std.proofs.Common.{◌≡◌, ◌≢◌, ◌≤◌, ◌<◌, ◌^◌, ◌+◌, ◌-◌, ◌*◌, ◌/◌, ◌%◌, ⊎_elim, inr, ℕ, zero, suc}
use Rattle.std.proofs.Common.{true, false, [], length, sym, ◌∙◌, ap, refl, subst, arith, Some}
use Rattle.std.specs.Prelude.{◌==◌, ◌&&◌, codes, decimal, replicate, nat_lt}
use Rattle.std.specs.Int.{div_ceil}
use Rattle.std.specs.Char.{is_ascii_digit}
use Rattle.std.specs.Str.Parse.{digits_value}
use Rattle.std.proofs.lemmas.Bool.{cases_lt, and_parts}
use Rattle.std.proofs.lemmas.Bool.Decides.{nat_tests, eqb_tells}
use Rattle.std.proofs.lemmas.Fmt.{length-decimal-le}
use Rattle.std.proofs.lemmas.List.{length-append, length-replicate}
use Rattle.std.proofs.lemmas.List.Elements.{All-append, All-replicate}
use Rattle.std.proofs.lemmas.Nat.{div-add-mod'}
use Rattle.std.proofs.Math.Nat.{mod-lt}
use Rattle.quantity.specs.state.Digits.{AllDigits}
use Rattle.quantity.specs.state.Printed.{scale_suffix, scale_numerator, scale_at, exact_number, least_number, form_of}
use Rattle.quantity.specs.state.Printed.{form_at, form_text, form_count, zero_padded}
use Rattle.quantity.specs.rule.Quantity.{thousandths_of}
use Rattle.quantity.specs.state.Quantity.{HasThousandths}
use Rattle.quantity.specs.rule.Suffix.{factor_of, times}
use Rattle.quantity.specs.state.Suffix.{HasFactor}
use Rattle.quantity.specs.declared.form.Form.{Form}
use Rattle.quantity.specs.declared.form.Scale.{Scale}
use Rattle.quantity.proofs.Decimal.{product_le}
use Rattle.quantity.proofs.Forms.{ten_some, ten_split}
use Rattle.quantity.proofs.Numbers.{digits_value-append, div_ceil_is_least}
use Rattle.quantity.proofs.Printing.{printed, Parts, IsNumber, before, number_means, whole_alone, without_point}
use Rattle.quantity.proofs.Suffixes.{some_if, mapped, factor_means}

named : (scale : Scale) → HasFactor (scale_suffix scale) (times (scale_numerator scale))
unfolding factor_of
named scale =
    let read : factor_of (scale_suffix scale) ≡ Some (times (scale_numerator scale)) = grind arith in
    factor_means (scale_suffix scale) (times (scale_numerator scale)) read

pub numerator_some : (scale : Scale) → 0 < scale_numerator scale
numerator_some scale = grind arith

-- a number, a point and a suffix
scaled_means : (parts : Parts) (q places number : ℕ) (scale : Scale) → IsNumber parts places number
    → thousandths_of number places (times (scale_numerator scale)) ≡ q
    → HasThousandths (before parts (scale_suffix scale)) q
scaled_means parts q places number scale is value =
    let some = ten_some places in
    number_means parts (scale_suffix scale) q
    (div_ceil (1000 * number * scale_numerator scale) (10 ^ places * 1)) places number (times (scale_numerator scale))
    is (named scale)
    (div_ceil_is_least (1000 * number * scale_numerator scale) (10 ^ places * 1) (omega (arith, some))) (sym value)

-- zeros before digits
zeros_value : (n : ℕ) → digits_value 10 (replicate n 48) ≡ 0
zeros_value zero = refl
zeros_value (suc n) = zeros_value n

record IsPadded (places n : ℕ) : Type 0 where
  digits : AllDigits (zero_padded places n)
  size : length (zero_padded places n) ≡ places
  value : digits_value 10 (zero_padded places n) ≡ n

padded_is : (places n : ℕ) → 0 < places → places ≤ 17 → n < 10 ^ places → n < 10 ^ 17 → IsPadded places n
padded_is places n some few small fits =
    let p = printed n fits in
    let short : length (decimal n) ≤ places = length-decimal-le places n some small (omega (arith, fits)) in
    let joined = digits_value-append (replicate (places - length (decimal n)) 48) (decimal n) in
    let none = zeros_value (places - length (decimal n)) in
    let lengths = length-append (replicate (places - length (decimal n)) 48) (decimal n) in
    let count : length {A = ℕ} (replicate (places - length (decimal n)) 48) ≡ places - length (decimal n) =
    length-replicate (places - length (decimal n)) 48 in
    record {
      digits = All-append (λ byte. is_ascii_digit byte ≡ true) (replicate (places - length (decimal n)) 48)
          (decimal n) (All-replicate (λ byte. is_ascii_digit byte ≡ true) (places - length (decimal n)) 48 refl)
          p.digits;
      size = omega (arith, lengths, count, short);
      value = joined ∙ (rw (none, p.value) (omega arith));
    }

abbrev fraction_alone : ℕ → ℕ → Parts
fraction_alone places n = record { whole = []; point = codes "."; fraction = zero_padded places n }

all_after_point : (places n : ℕ) → 0 < places → places ≤ 17 → n < 10 ^ places → n < 10 ^ 17
    → IsNumber (fraction_alone places n) places n
all_after_point places n some few small fits =
    let p = padded_is places n some few small fits in
    record {
      whole_digits = λ k d lt. absurd (omega (arith, lt));
      fraction_digits = p.digits;
      some_digit = omega (arith, p.size, some);
      few_digits = omega (arith, p.size, few);
      point_is = inr refl;
      size = p.size;
      value = p.value;
    }

whole_fits : (places whole number : ℕ) → places ≤ 17 → whole * 10 ^ places ≤ number → number < 10 ^ 17
    → whole < 10 ^ (17 - places)
whole_fits places whole number few below small =
    ⊎_elim (λ (lt : whole < 10 ^ (17 - places)). lt)
    (λ (le : 10 ^ (17 - places) ≤ whole).
    let more : 10 ^ (17 - places) * 10 ^ places ≤ whole * 10 ^ places = product_le (10 ^ (17 - places)) (10 ^ places)
    whole (10 ^ places) le (omega arith) in
    let split = ten_split places few in
    absurd (omega (arith, more, split, below, small)))
    (cases_lt whole (10 ^ (17 - places)))

abbrev whole_and_fraction : ℕ → ℕ → ℕ → Parts
whole_and_fraction places whole n =
    record { whole = decimal whole; point = codes "."; fraction = zero_padded places n }

both_sides : (places whole fraction number : ℕ) → 0 < places → places ≤ 17 → 0 < whole → fraction < 10 ^ places
    → number ≡ whole * 10 ^ places + fraction → number < 10 ^ 17
    → IsNumber (whole_and_fraction places whole fraction) places number
both_sides places whole fraction number some few front small is fits =
    let one = ten_some places in
    let front_le : whole * 1 ≤ whole * 10 ^ places = product_le whole 1 whole (10 ^ places) (omega arith) one in
    let w = printed whole (omega (arith, front_le, is, fits)) in
    let p = padded_is places fraction some few small (omega (arith, is, fits)) in
    let room : whole < 10 ^ (17 - places) = whole_fits places whole number few (omega (arith, is)) fits in
    let left : 0 < 17 - places = ⊎_elim (λ (lt : 0 < 17 - places). lt)
    (λ (le : 17 - places ≤ 0). let e : 17 - places ≡ 0 = omega (arith, le) in let r : whole < 10 ^ 0 =
    (rw e at room) in absurd (omega (arith, r, front))) (cases_lt 0 (17 - places)) in
    let short : length (decimal whole) ≤ 17 - places = length-decimal-le (17 - places) whole left room
    (omega (arith, front_le, is, fits)) in
    let joined = digits_value-append (decimal whole) (zero_padded places fraction) in
    record {
      whole_digits = w.digits;
      fraction_digits = p.digits;
      some_digit = omega (arith, w.some);
      few_digits = omega (arith, p.size, short, few);
      point_is = inr refl;
      size = p.size;
      value = joined ∙ (rw (w.value, p.size, p.value) (sym is));
    }

form_means : (q places number : ℕ) (scale : Scale) → places ≤ 17 → number < 10 ^ 17
    → thousandths_of number places (times (scale_numerator scale)) ≡ q
    → HasThousandths (form_text (form_of places scale number)) q
form_means q places number scale few small value =
    let unit = ten_some places in
    let split : number / 10 ^ places * 10 ^ places + number % 10 ^ places ≡ number = div-add-mod' number (10 ^ places)
    in
    let rest : number % 10 ^ places < 10 ^ places = mod-lt number unit in
    ⊎_elim (λ (none : ((places == 0) ≡ true) × (places ≡ 0)).
    let one : 10 ^ places ≡ 1 = ap (λ k. 10 ^ k) none.1 in
    let whole : number / 10 ^ places ≡ number = rw one (omega arith) in
    let value' : thousandths_of number 0 (times (scale_numerator scale)) ≡ q = (rw none.1 at value) in
    rw (none.0, whole) (scaled_means (whole_alone number) q 0 number scale (without_point number small) value'))
    (λ (some : ((places == 0) ≡ false) × (places ≢ 0)).
    let more : 0 < places =
    (let h = some.1 in ⊎_elim (λ (lt : 0 < places). lt) (λ (le : places ≤ 0). absurd (h (omega (arith, le))))
    (cases_lt 0 places)) in
    ⊎_elim (λ (none : ((number / 10 ^ places == 0) ≡ true) × (number / 10 ^ places ≡ 0)).
    let all : number % 10 ^ places ≡ number = (let s = (rw none.1 at split) in omega (arith, s)) in
    let low : number < 10 ^ places = omega (arith, all, rest) in
    rw (some.0, none.0, all) (scaled_means (fraction_alone places number) q places number scale
    (all_after_point places number more few low small) value))
    (λ (front : ((number / 10 ^ places == 0) ≡ false) × (number / 10 ^ places ≢ 0)).
    let above : 0 < number / 10 ^ places =
    (let h = front.1 in ⊎_elim (λ (lt : 0 < number / 10 ^ places). lt)
    (λ (le : number / 10 ^ places ≤ 0). absurd (h (omega (arith, le)))) (cases_lt 0 (number / 10 ^ places))) in
    rw (some.0, front.0) (scaled_means
    (whole_and_fraction places (number / 10 ^ places) (number % 10 ^ places)) q places number scale
    (both_sides places (number / 10 ^ places) (number % 10 ^ places) number more few above rest (sym split) small)
    value))
    (eqb_tells (number / 10 ^ places) 0))
    (eqb_tells places 0)

exact_number_is : (q places numerator number : ℕ) → exact_number q places numerator ≡ Some number → (number < 10 ^ 17)
    × (thousandths_of number places (times numerator) ≡ q)
exact_number_is q places numerator number h =
    let t = some_if (nat_lt (least_number q places numerator) (10 ^ 17) &&
    (thousandths_of (least_number q places numerator) places (times numerator) == q))
    (least_number q places numerator) number h in
    let both = and_parts (nat_lt (least_number q places numerator) (10 ^ 17))
    (thousandths_of (least_number q places numerator) places (times numerator) == q) t.0 in
    let a = both.0 in
    let b = both.1 in
    let low : least_number q places numerator < 10 ^ 17 = grind (arith, nat_tests) in
    let same : thousandths_of (least_number q places numerator) places (times numerator) ≡ q =
    grind (arith, nat_tests) in
    (rw t.1 at low, rw t.1 at same)

-- the form at a place prints the quantity
pub form_at_means : (q place : ℕ) (form : Form) → place < form_count → form_at q place ≡ Some form
    → HasThousandths (form_text form) q
form_at_means q place form below h =
    let m = mapped (form_of (place / 13) (scale_at (place % 13)))
    (exact_number q (place / 13) (scale_numerator (scale_at (place % 13)))) form h in
    let e = exact_number_is q (place / 13) (scale_numerator (scale_at (place % 13))) m.0 m.1 in
    let few : place / 13 ≤ 17 = omega (arith, below) in
    let P : Form → Type 0 = λ form. HasThousandths (form_text form) q in
    subst P m.2 (form_means q (place / 13) m.0 (scale_at (place % 13)) few e.0 e.1)
