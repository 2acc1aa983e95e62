-- A percentage is refused for its first fault.
use Rattle.std.proofs.Common.{◌≡◌, ◌≢◌, ◌≤◌, ◌<◌, ◌^◌, ◌+◌, ◌-◌, ◌*◌, ◌⊎◌, ⊎_elim, inl, inr, ℕ, zero, suc, Bool, true}
use Rattle.std.proofs.Common.{false, not, ◌&&◌, ◌||◌, List, [], ◌++◌, length, drop, sym, ◌∙◌, refl, arith, Ok}
use Rattle.std.proofs.Common.{Err, Result}
use Rattle.std.specs.Prelude.{slice_index, ◌==◌, codes, nat_lt}
use Rattle.std.specs.Char.{is_ascii_digit}
use Rattle.std.specs.Str.Parse.{digits_value}
use Rattle.std.specs.Str.{bytes_eq}
use Rattle.std.proofs.lemmas.Bool.{false≢true, and_parts}
use Rattle.std.proofs.lemmas.Bool.Decides.{nat_tests}
use Rattle.std.proofs.lemmas.Slice.Eq.{bytes_eq-Decides}
use Rattle.quantity.specs.rule.Digits.{after_digits}
use Rattle.quantity.specs.rule.Number.{whole_of, has_point, fraction_of, after_number}
use Rattle.quantity.specs.rule.Percent.{hundredths_of, percent_of}
use Rattle.quantity.specs.state.Percent.{HasParts, HasPartsFault, HasNumberFault, HasPercentFault}
use Rattle.quantity.specs.rule.Steps.{◌>>=◌, refused_if}
use Rattle.quantity.specs.declared.fault.QuantityFault.{QuantityFault}
use Rattle.quantity.specs.declared.fault.QuantityFault.TheVariants.{BadDigit, BadSuffix, TooManyDigits}
use Rattle.quantity.proofs.Decimal.{leading_are_digits}
use Rattle.quantity.proofs.Numbers.{NumberSplit, number_split, digits_value-append}
use Rattle.quantity.proofs.PercentMeaning.{no_digits}
use Rattle.quantity.proofs.QuantityLaws.{after_stops}
use Rattle.quantity.proofs.Runs.{no_point}
use Rattle.quantity.proofs.StepsPassed.{failed, unsigned_fault}

rest_stops : (text : List ℕ) (d : Bool) → has_point text ≡ d
    → is_ascii_digit (slice_index (after_number text) 0) ≡ false
rest_stops text true e = rw e (after_stops (drop 1 (after_digits text)))
rest_stops text false e = rw e (after_stops text)

rest_no_point : (text : List ℕ) → has_point text ≡ false → slice_index (after_number text) 0 ≢ 46
rest_no_point text e = rw e (no_point text e)

-- the parts that are read of a text
record ReadParts (text : List ℕ) : Type 0 where
  point : List ℕ
  parts : HasParts text (whole_of text) point (fraction_of text) (after_number text)
  has : point ≡ codes "." → has_point text ≡ true
  had : has_point text ≡ true → point ≡ codes "."

read_parts : (text : List ℕ) → NumberSplit text → ReadParts text
read_parts text split = record {
  point = split.point;
  parts = record {
    text_is = split.text_is;
    whole_digits = leading_are_digits text;
    fraction_digits = split.fraction_digits;
    point_is = ⊎_elim (λ (n : (split.point ≡ []) × (fraction_of text ≡ []) × (has_point text ≡ false)). inl
        (n.0, n.1, rest_no_point text n.2)) (λ (p : (split.point ≡ codes ".") × (has_point text ≡ true)). inr p.0)
        split.point_is;
    no_more_digits = rest_stops text (has_point text) refl;
  };
  has = λ is. ⊎_elim (λ (n : (split.point ≡ []) × (fraction_of text ≡ []) × (has_point text ≡ false)). absurd
      (let e = n.0 in cc)) (λ (p : (split.point ≡ codes ".") × (has_point text ≡ true)). p.1) split.point_is;
  had = λ is. ⊎_elim (λ (n : (split.point ≡ []) × (fraction_of text ≡ []) × (has_point text ≡ false)). absurd
      (false≢true (sym n.2 ∙ is))) (λ (p : (split.point ≡ codes ".") × (has_point text ≡ true)). p.0) split.point_is;
}

or_true : (a b : Bool) → (a || b) ≡ true → (a ≡ true) ⊎ (b ≡ true)
or_true true b h = inl refl
or_true false b h = inr h

digit_faults : (whole fraction : ℕ) (has : Bool) → (whole == 0 || (has && fraction == 0)) ≡ true
    → (whole ≡ 0) ⊎ ((has ≡ true) × (fraction ≡ 0))
digit_faults whole fraction has h =
    ⊎_elim (λ (a : (whole == 0) ≡ true). inl (grind (arith, nat_tests)))
    (λ (b : (has && fraction == 0) ≡ true).
    let c = and_parts has (fraction == 0) b in
    let none : (fraction == 0) ≡ true = c.1 in
    inr (c.0, grind (arith, nat_tests)))
    (or_true (whole == 0) (has && fraction == 0) h)

many_faults : (whole fraction : ℕ) → (nat_lt 3 whole || nat_lt 2 fraction) ≡ true → (3 < whole) ⊎ (2 < fraction)
many_faults whole fraction h =
    ⊎_elim (λ (a : nat_lt 3 whole ≡ true). inl (grind (arith, nat_tests)))
    (λ (a : nat_lt 2 fraction ≡ true). inr (grind (arith, nat_tests)))
    (or_true (nat_lt 3 whole) (nat_lt 2 fraction) h)

above_hundred : (whole fraction places : ℕ) → places ≤ 2 → (places ≡ 0 → fraction ≡ 0)
    → 10000 < whole * 100 + fraction * 10 ^ (2 - places) → 10000 * 10 ^ places < 100 * (whole * 10 ^ places + fraction)
above_hundred whole fraction zero few none h = let z : fraction ≡ 0 = none refl in omega (arith, h, z)
above_hundred whole fraction (suc zero) few none h = omega (arith, h)
above_hundred whole fraction (suc (suc zero)) few none h = omega (arith, h)
above_hundred whole fraction (suc (suc (suc n))) few none h = absurd (omega arith)

-- the checks after the sign, and those after the number
value_checks : List ℕ → Result ℕ QuantityFault
value_checks text = do
  _ ← refused_if (not (bytes_eq (after_number text) (codes "%"))) BadSuffix
  _ ← refused_if (nat_lt 10000 (hundredths_of (whole_of text) (fraction_of text))) TooManyDigits
  Ok (hundredths_of (whole_of text) (fraction_of text))

percent_checks : List ℕ → Result ℕ QuantityFault
unfolding value_checks
percent_checks text = do
  _ ← refused_if (length (whole_of text) == 0 || (has_point text && length (fraction_of text) == 0)) BadDigit
  _ ← refused_if (nat_lt 3 (length (whole_of text)) || nat_lt 2 (length (fraction_of text))) TooManyDigits
  value_checks text

-- the checks of what follows the number, and of its value
sign_fault : (text : List ℕ) (fault : QuantityFault) → length (fraction_of text) ≤ 2 → value_checks text ≡ Err fault
    → ((after_number text ≢ codes "%") × (fault ≡ BadSuffix)) ⊎ ((after_number text ≡ codes "%")
    × (10000 * 10 ^ length (fraction_of text) < 100 * digits_value 10 (whole_of text ++ fraction_of text))
    × (fault ≡ TooManyDigits))
unfolding value_checks
sign_fault text fault two h =
    ⊎_elim (λ (a : (not (bytes_eq (after_number text) (codes "%")) ≡ true) × (fault ≡ BadSuffix)).
    let differs : bytes_eq (after_number text) (codes "%") ≡ false = (let n = a.0 in grind arith) in
    inl (λ e. false≢true (sym differs ∙ (bytes_eq-Decides (after_number text) (codes "%")).1 e), a.1))
    (λ (a : (not (bytes_eq (after_number text) (codes "%")) ≡ false) × _).
    let same : bytes_eq (after_number text) (codes "%") ≡ true = (let n = a.0 in grind arith) in
    ⊎_elim (λ (b : (nat_lt 10000 (hundredths_of (whole_of text) (fraction_of text)) ≡ true) × (fault ≡ TooManyDigits)).
    let t : nat_lt 10000 (hundredths_of (whole_of text) (fraction_of text)) ≡ true = b.0 in
    let large : 10000 < hundredths_of (whole_of text) (fraction_of text) = grind (arith, nat_tests) in
    inr (
      (bytes_eq-Decides (after_number text) (codes "%")).0 same,
      rw (digits_value-append (whole_of text) (fraction_of text))
          (above_hundred (digits_value 10 (whole_of text)) (digits_value 10 (fraction_of text))
          (length (fraction_of text)) two (no_digits (fraction_of text)) large),
      b.1,
    ))
    (λ (b : (nat_lt 10000 (hundredths_of (whole_of text) (fraction_of text)) ≡ false) × _). absurd (let e = b.1 in cc))
    (failed (nat_lt 10000 (hundredths_of (whole_of text) (fraction_of text))) _ _ fault a.1))
    (failed (not (bytes_eq (after_number text) (codes "%"))) _ _ fault h)

-- the checks after the sign
number_fault : (text : List ℕ) (fault : QuantityFault) (read : ReadParts text) → percent_checks text ≡ Err fault
    → HasPartsFault (whole_of text) read.point (fraction_of text) (after_number text) fault
unfolding percent_checks
number_fault text fault read h =
    ⊎_elim (λ (a : ((length (whole_of text) == 0 || (has_point text && length (fraction_of text) == 0)) ≡ true)
    × (fault ≡ BadDigit)).
    inl (
      ⊎_elim (λ (w : length (whole_of text) ≡ 0). inl w)
          (λ (p : (has_point text ≡ true) × (length (fraction_of text) ≡ 0)). inr (read.had p.0, p.1))
          (digit_faults (length (whole_of text)) (length (fraction_of text)) (has_point text) a.0),
      a.1,
    ))
    (λ (a : ((length (whole_of text) == 0 || (has_point text && length (fraction_of text) == 0)) ≡ false) × _).
    let digits : (length (whole_of text) == 0 || (has_point text && length (fraction_of text) == 0)) ≡ false = a.0 in
    let some : 0 < length (whole_of text) = grind (arith, nat_tests) in
    let some' : has_point text ≡ true → 0 < length (fraction_of text) = λ p. grind (arith, nat_tests) in
    inr (
      some,
      λ is. some' (read.has is),
      ⊎_elim (λ (b : ((nat_lt 3 (length (whole_of text)) || nat_lt 2 (length (fraction_of text))) ≡ true)
          × (fault ≡ TooManyDigits)).
          inl (many_faults (length (whole_of text)) (length (fraction_of text)) b.0, b.1))
          (λ (b : ((nat_lt 3 (length (whole_of text)) || nat_lt 2 (length (fraction_of text))) ≡ false) × _).
          let few : (nat_lt 3 (length (whole_of text)) || nat_lt 2 (length (fraction_of text))) ≡ false = b.0 in
          let three : length (whole_of text) ≤ 3 = grind (arith, nat_tests) in
          let two : length (fraction_of text) ≤ 2 = grind (arith, nat_tests) in
          inr (three, two, sign_fault text fault two b.1))
          (failed (nat_lt 3 (length (whole_of text)) || nat_lt 2 (length (fraction_of text))) _ _ fault a.1),
    ))
    (failed (length (whole_of text) == 0 || (has_point text && length (fraction_of text) == 0)) _ _ fault h)

pub percent_fault : (text : List ℕ) (fault : QuantityFault) → percent_of text ≡ Err fault → HasPercentFault text fault
unfolding percent_of percent_checks value_checks
percent_fault text fault h =
    let read = read_parts text (number_split text (has_point text) refl) in
    unsigned_fault (HasNumberFault text fault) text fault _ h (λ e. record {
      whole = whole_of text;
      point = read.point;
      fraction = fraction_of text;
      rest = after_number text;
      parts = read.parts;
      fault_is = number_fault text fault read e;
    })
