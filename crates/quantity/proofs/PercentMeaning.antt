-- A percentage is read as what it means.
use Rattle.std.proofs.Common.{◌≡◌, ◌≤◌, ◌<◌, ◌^◌, ◌+◌, ◌-◌, ◌*◌, ⊎_elim, inl, inr, ℕ, zero, suc, true, false, not}
use Rattle.std.proofs.Common.{◌&&◌, ◌||◌, List, [], ◌∷◌, ◌++◌, length, sym, ◌∙◌, ap, refl, arith, Ok}
use Rattle.std.specs.Prelude.{slice_index, ◌==◌, codes, nat_lt}
use Rattle.std.specs.Str.Parse.{digits_value}
use Rattle.std.specs.Str.{bytes_eq}
use Rattle.std.proofs.lemmas.Bool.Decides.{nat_tests}
use Rattle.std.proofs.lemmas.Slice.Eq.{bytes_eq-Decides}
use Rattle.quantity.specs.state.Digits.{AllDigits}
use Rattle.quantity.specs.rule.Number.{whole_of, has_point, fraction_of, after_number}
use Rattle.quantity.specs.rule.Percent.{hundredths_of, percent_of}
use Rattle.quantity.specs.state.Percent.{HasHundredths}
use Rattle.quantity.specs.rule.Quantity.{number_value}
use Rattle.quantity.proofs.Decimal.{digit_value_is, leading_are_digits}
use Rattle.quantity.proofs.Numbers.{parts_with_point, parts_without_point, digits_value-append, number_split}
use Rattle.quantity.proofs.StepsPassed.{passed}

-- the value, at 0, 1 and 2 digits after the point
hundredths_are : (whole fraction hundredths places : ℕ) → places ≤ 2 → (places ≡ 0 → fraction ≡ 0)
    → hundredths * 10 ^ places ≡ 100 * (whole * 10 ^ places + fraction) → hundredths ≡ whole * 100 + fraction * 10 ^
    (2 - places)
hundredths_are whole fraction hundredths zero few none e = let z : fraction ≡ 0 = none refl in omega (arith, e, z)
hundredths_are whole fraction hundredths (suc zero) few none e = omega (arith, e)
hundredths_are whole fraction hundredths (suc (suc zero)) few none e = omega (arith, e)
hundredths_are whole fraction hundredths (suc (suc (suc n))) few none e = absurd (omega arith)

hundredths_scaled : (whole fraction places : ℕ) → places ≤ 2 → (places ≡ 0 → fraction ≡ 0)
    → (whole * 100 + fraction * 10 ^ (2 - places)) * 10 ^ places ≡ 100 * (whole * 10 ^ places + fraction)
hundredths_scaled whole fraction zero few none = let z : fraction ≡ 0 = none refl in omega (arith, z)
hundredths_scaled whole fraction (suc zero) few none = omega arith
hundredths_scaled whole fraction (suc (suc zero)) few none = omega arith
hundredths_scaled whole fraction (suc (suc (suc n))) few none = absurd (omega arith)

pub no_digits : (digits : List ℕ) → length digits ≡ 0 → digits_value 10 digits ≡ 0
no_digits [] h = refl
no_digits (c ∷ cs) h = absurd (omega arith)

-- each check passes
record Passes (text whole fraction : List ℕ) : Type 0 where
  some_text : (length text == 0) ≡ false
  no_minus : (slice_index text 0 == 45) ≡ false
  digits : (length (whole_of text) == 0 || (has_point text && length (fraction_of text) == 0)) ≡ false
  few : (nat_lt 3 (length (whole_of text)) || nat_lt 2 (length (fraction_of text))) ≡ false
  rest : after_number text ≡ codes "%"
  whole_is : whole_of text ≡ whole
  fraction_is : fraction_of text ≡ fraction

reads : (text whole fraction : List ℕ) (hundredths : ℕ) → Passes text whole fraction
    → hundredths ≡ hundredths_of whole fraction → hundredths ≤ 10000 → percent_of text ≡ Ok hundredths
unfolding percent_of
reads text whole fraction hundredths p value small =
    let same : hundredths_of (whole_of text) (fraction_of text) ≡ hundredths = rw (p.whole_is, p.fraction_is)
    (sym value) in
    let fits : nat_lt 10000 hundredths ≡ false = grind (arith, nat_tests) in
    rw (p.some_text, p.no_minus, p.digits, p.few, p.rest, same, fits)

first_digit : (whole rest : List ℕ) → AllDigits whole → 1 ≤ length whole → ((length (whole ++ rest) == 0) ≡ false)
    × ((slice_index (whole ++ rest) 0 == 45) ≡ false)
first_digit [] rest all some = absurd (omega arith)
first_digit (c ∷ whole) rest all some =
    let low : 48 ≤ c = (digit_value_is c (all 0 0 (omega arith))).1 in
    let some' : 0 < suc (length (whole ++ rest)) = omega arith in
    (grind (arith, nat_tests), grind (arith, nat_tests))

passes_with_point : (whole fraction : List ℕ) → AllDigits whole → AllDigits fraction → 1 ≤ length whole
    → length whole ≤ 3 → 1 ≤ length fraction → length fraction ≤ 2
    → Passes (whole ++ (codes "." ++ (fraction ++ codes "%"))) whole fraction
passes_with_point whole fraction all more some few some' few' =
    let p = parts_with_point whole fraction (codes "%") all more refl in
    let first = first_digit whole (46 ∷ (fraction ++ codes "%")) all some in
    record {
      some_text = first.0;
      no_minus = first.1;
      digits = rw (p.0, p.1, p.3) (grind (arith, nat_tests));
      few = rw (p.0, p.1) (grind (arith, nat_tests));
      rest = p.2;
      whole_is = p.0;
      fraction_is = p.1;
    }

passes_without_point : (whole : List ℕ) → AllDigits whole → 1 ≤ length whole → length whole ≤ 3
    → Passes (whole ++ codes "%") whole []
passes_without_point whole all some few =
    let p = parts_without_point whole (codes "%") all refl (λ h. cc) in
    let first = first_digit whole (codes "%") all some in
    record {
      some_text = first.0;
      no_minus = first.1;
      digits = rw (p.0, p.3) (grind (arith, nat_tests));
      few = rw (p.0, p.1) (grind (arith, nat_tests));
      rest = p.2;
      whole_is = p.0;
      fraction_is = p.1;
    }

passes : (text : List ℕ) (hundredths : ℕ) (h : HasHundredths text hundredths) → (Passes text h.whole h.fraction)
    × (length h.fraction ≤ 2)
passes text hundredths h =
    ⊎_elim (λ (none : (h.point ≡ []) × (h.fraction ≡ [])).
    let r : (Passes text h.whole h.fraction) × (length h.fraction ≤ 2) = rw (h.text_is, none.0, none.1)
    (passes_without_point h.whole h.whole_digits h.some_whole.0 h.some_whole.1, omega arith) in r)
    (λ (e : (h.point ≡ codes ".") × (1 ≤ length h.fraction) × (length h.fraction ≤ 2)).
    let r : (Passes text h.whole h.fraction) × (length h.fraction ≤ 2) = (
      rw (h.text_is, e.0) (passes_with_point h.whole h.fraction h.whole_digits h.fraction_digits h.some_whole.0
          h.some_whole.1 e.1 e.2),
      e.2,
    ) in r)
    h.some_fraction

pub percent_complete : (text : List ℕ) (hundredths : ℕ) → HasHundredths text hundredths
    → percent_of text ≡ Ok hundredths
percent_complete text hundredths h =
    let p = passes text hundredths h in
    let joined : digits_value 10 (h.whole ++ h.fraction) ≡ number_value h.whole h.fraction =
    digits_value-append h.whole h.fraction in
    let value = hundredths_are (digits_value 10 h.whole) (digits_value 10 h.fraction) hundredths (length h.fraction)
    p.1 (no_digits h.fraction) (h.value ∙ ap (λ n. 100 * n) joined) in
    reads text h.whole h.fraction hundredths p.0 value h.at_most

-- From what is read to what it means.

percent_means : (text : List ℕ) → 1 ≤ length (whole_of text) → length (whole_of text) ≤ 3
    → (has_point text ≡ true → 1 ≤ length (fraction_of text)) → length (fraction_of text) ≤ 2
    → after_number text ≡ codes "%" → hundredths_of (whole_of text) (fraction_of text) ≤ 10000
    → HasHundredths text (hundredths_of (whole_of text) (fraction_of text))
percent_means text some few some' few' rest small =
    let split = number_split text (has_point text) refl in
    let scaled = hundredths_scaled (digits_value 10 (whole_of text)) (digits_value 10 (fraction_of text))
    (length (fraction_of text)) few' (no_digits (fraction_of text)) in
    record {
      whole = whole_of text;
      point = split.point;
      fraction = fraction_of text;
      text_is = (let t = split.text_is in rw rest at t);
      whole_digits = leading_are_digits text;
      fraction_digits = split.fraction_digits;
      some_whole = (some, few);
      some_fraction = ⊎_elim (λ e. inl (e.0, e.1)) (λ e. inr (e.0, some' e.1, few')) split.point_is;
      value = scaled ∙ ap (λ n. 100 * n) (sym (digits_value-append (whole_of text) (fraction_of text)));
      at_most = small;
    }

pub percent_sound : (text : List ℕ) (hundredths : ℕ) → percent_of text ≡ Ok hundredths → HasHundredths text hundredths
unfolding percent_of
percent_sound text hundredths h =
    let a = passed (length text == 0) _ _ hundredths h in
    let b = passed (slice_index text 0 == 45) _ _ hundredths a.1 in
    let c = passed (length (whole_of text) == 0 || (has_point text && length (fraction_of text) == 0)) _ _ hundredths
    b.1 in
    let d = passed (nat_lt 3 (length (whole_of text)) || nat_lt 2 (length (fraction_of text))) _ _ hundredths c.1 in
    let e = passed (not (bytes_eq (after_number text) (codes "%"))) _ _ hundredths d.1 in
    let f = passed (nat_lt 10000 (hundredths_of (whole_of text) (fraction_of text))) _ _ hundredths e.1 in
    let digits : (length (whole_of text) == 0 || (has_point text && length (fraction_of text) == 0)) ≡ false = c.0 in
    let few : (nat_lt 3 (length (whole_of text)) || nat_lt 2 (length (fraction_of text))) ≡ false = d.0 in
    let same : bytes_eq (after_number text) (codes "%") ≡ true = (let n = e.0 in grind arith) in
    let rest : after_number text ≡ codes "%" = (bytes_eq-Decides (after_number text) (codes "%")).0 same in
    let fits : nat_lt 10000 (hundredths_of (whole_of text) (fraction_of text)) ≡ false = f.0 in
    let value : hundredths_of (whole_of text) (fraction_of text) ≡ hundredths = (let v = f.1 in cc) in
    let meant = percent_means text (grind (arith, nat_tests)) (grind (arith, nat_tests))
    (λ p. grind (arith, nat_tests)) (grind (arith, nat_tests)) rest (grind (arith, nat_tests)) in
    rw value at meant

-- a text has one value
pub hundredths_are_one : (text : List ℕ) (m n : ℕ) → HasHundredths text m → HasHundredths text n → m ≡ n
hundredths_are_one text m n one two =
    let a = percent_complete text m one in
    let b = percent_complete text n two in
    cc
