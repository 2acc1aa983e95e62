-- What is printed of a quantity is read as that quantity.
use Rattle.std.proofs.Common.{◌≡◌, ◌≢◌, ◌≤◌, ◌<◌, ◌^◌, ◌+◌, ◌*◌, ◌/◌, ◌%◌, ◌⊎◌, ⊎_elim, inl, inr, ℕ, true, false}
use Rattle.std.proofs.Common.{List, [], ◌++◌, length, get_or, sym, ap, refl, arith, append_assoc}
use Rattle.std.specs.Prelude.{◌==◌, codes, decimal, min}
use Rattle.std.specs.Char.{is_ascii_digit}
use Rattle.std.specs.Int.{IsInRange}
use Rattle.std.specs.Str.Parse.{digits_value, AllDigits as AllInRadix}
use Rattle.std.proofs.lemmas.Bool.Decides.{nat_tests, eqb_tells}
use Rattle.std.proofs.lemmas.Fmt.{decimal_is_IsNumeral, decimal_digit, length-decimal-le}
use Rattle.std.proofs.lemmas.List.{append-nil, get_or_default, length-append}
use Rattle.std.proofs.lemmas.List.Elements.{All-append}
use Rattle.std.proofs.lemmas.Str.Parse.{digit_at}
use Rattle.quantity.specs.state.Digits.{AllDigits}
use Rattle.quantity.specs.state.Percent.{HasHundredths, percent_text}
use Rattle.quantity.specs.state.Printed.{plain_text}
use Rattle.quantity.specs.rule.Quantity.{greatest_quantity}
use Rattle.quantity.specs.state.Quantity.{HasThousandths, IsLeastNotBelow}
use Rattle.quantity.specs.rule.Suffix.{times, divided_by}
use Rattle.quantity.specs.state.Suffix.{HasFactor}
use Rattle.quantity.specs.declared.suffix.Factor.{Factor}
use Rattle.quantity.proofs.Numbers.{digits_value-append}

digits_are : (digits : List ℕ) → AllInRadix 10 digits → AllDigits digits
digits_are digits all k d lt =
    let range : IsInRange 48 57 (get_or digits k 0) = digit_at digits k all lt in
    let same : get_or digits k d ≡ get_or digits k 0 = get_or_default digits k d 0 lt in
    let low : 48 ≤ get_or digits k 0 = range.0 in
    let high : get_or digits k 0 ≤ 57 = range.1 in
    rw same (grind (arith, nat_tests))

pub record IsPrinted (n : ℕ) : Type 0 where
  pub digits : AllDigits (decimal n)
  pub some : 1 ≤ length (decimal n)
  pub few : length (decimal n) ≤ 17
  pub value : digits_value 10 (decimal n) ≡ n

pub printed : (n : ℕ) → n < 10 ^ 17 → IsPrinted n
printed n small =
    let fits : n < 2 ^ 64 = omega (arith, small) in
    let numeral = decimal_is_IsNumeral n fits in
    record {
      digits = digits_are (decimal n) numeral.0.1;
      some = numeral.0.0;
      few = length-decimal-le 17 n (omega arith) small fits;
      value = numeral.1;
    }

-- the digits of a number, before and behind its point
pub record Parts : Type 0 where
  pub whole : List ℕ
  pub point : List ℕ
  pub fraction : List ℕ

pub record IsNumber (parts : Parts) (places number : ℕ) : Type 0 where
  pub whole_digits : AllDigits parts.whole
  pub fraction_digits : AllDigits parts.fraction
  pub some_digit : 1 ≤ length parts.whole + length parts.fraction
  pub few_digits : length parts.whole + length parts.fraction ≤ 17
  pub point_is : ((parts.point ≡ []) × (parts.fraction ≡ [])) ⊎ (parts.point ≡ codes ".")
  pub size : length parts.fraction ≡ places
  pub value : digits_value 10 (parts.whole ++ parts.fraction) ≡ number

abbrev pub before : Parts → List ℕ → List ℕ
before parts suffix = parts.whole ++ (parts.point ++ (parts.fraction ++ suffix))

pub number_means : (parts : Parts) (suffix : List ℕ) (q exact places number : ℕ) (factor : Factor)
    → IsNumber parts places number → HasFactor suffix factor
    → IsLeastNotBelow exact (1000 * number * factor.numerator) (10 ^ places * factor.denominator)
    → q ≡ min exact greatest_quantity → HasThousandths (before parts suffix) q
number_means parts suffix q exact places number factor is scaled least value = record {
  plus = [];
  whole = parts.whole;
  point = parts.point;
  fraction = parts.fraction;
  suffix = suffix;
  factor = factor;
  text_is = refl;
  plus_is = inl refl;
  whole_digits = is.whole_digits;
  fraction_digits = is.fraction_digits;
  some_digit = is.some_digit;
  few_digits = is.few_digits;
  point_is = is.point_is;
  scaled = scaled;
  exact = exact;
  exact_is = rw (is.value, is.size) least;
  thousandths_is = value;
}

abbrev pub whole_alone : ℕ → Parts
whole_alone n = record { whole = decimal n; point = []; fraction = [] }

pub without_point : (n : ℕ) → n < 10 ^ 17 → IsNumber (whole_alone n) 0 n
without_point n small =
    let p = printed n small in
    record {
      whole_digits = p.digits;
      fraction_digits = λ k d lt. absurd (omega (arith, lt));
      some_digit = omega (arith, p.some);
      few_digits = omega (arith, p.few);
      point_is = inl (refl, refl);
      size = refl;
      value = rw append-nil p.value;
    }

-- a number with no point, and a suffix
whole_means : (m n : ℕ) (suffix : List ℕ) (factor : Factor) → m ≤ greatest_quantity → n < 10 ^ 17
    → HasFactor suffix factor
    → IsLeastNotBelow m (1000 * n * factor.numerator) (1 * factor.denominator) → HasThousandths (decimal n ++ suffix) m
whole_means m n suffix factor small few scaled least =
    number_means (whole_alone n) suffix m m 0 n factor (without_point n few) scaled least (omega (arith, small))

units_mean : (m n : ℕ) → m ≤ greatest_quantity → m ≡ 1000 * n → n < 10 ^ 17 → HasThousandths (decimal n) m
units_mean m n small is few =
    let h = whole_means m n [] (times 1) small few (inl (0, omega arith, refl))
    (record { not_below = omega (arith, is); least = λ k h. omega (arith, is, h) }) in rw append-nil at h

thousandths_mean : (m : ℕ) → m ≤ greatest_quantity → m < 10 ^ 17 → HasThousandths (decimal m ++ codes "m") m
thousandths_mean m small few =
    whole_means m m (codes "m") (divided_by (10 ^ 3)) small few (inl (3, omega arith, refl))
    (record { not_below = omega arith; least = λ k h. omega (arith, h) })

pub plain_reads_back : (m : ℕ) → m ≤ greatest_quantity → (m < 10 ^ 17) ⊎ ((m % 1000 ≡ 0) × (m / 1000 < 10 ^ 17))
    → HasThousandths (plain_text m) m
plain_reads_back m small few =
    ⊎_elim (λ (w : ((m % 1000 == 0) ≡ true) × (m % 1000 ≡ 0)).
    let is : m ≡ 1000 * (m / 1000) = omega (arith, w.1) in
    let below : m / 1000 < 10 ^ 17 = ⊎_elim (λ (h : m < 10 ^ 17). omega (arith, h))
    (λ (h : (m % 1000 ≡ 0) × (m / 1000 < 10 ^ 17)). h.1) few in
    rw w.0 (units_mean m (m / 1000) small is below))
    (λ (w : ((m % 1000 == 0) ≡ false) × (m % 1000 ≢ 0)).
    let below : m < 10 ^ 17 = ⊎_elim (λ (h : m < 10 ^ 17). h)
    (λ (h : (m % 1000 ≡ 0) × (m / 1000 < 10 ^ 17)). absurd (w.1 h.0)) few in
    rw w.0 (thousandths_mean m small below))
    (eqb_tells (m % 1000) 0)

-- one digit
one_digit : (n : ℕ) → n < 10 → (AllDigits (decimal n)) × (length (decimal n) ≡ 1) × (digits_value 10 (decimal n) ≡ n)
one_digit n small =
    let p = printed n (omega (arith, small)) in
    (p.digits, (let e = decimal_digit n small in rw e refl), p.value)

whole_percentage : (m n : ℕ) → m ≤ 10000 → m ≡ 100 * n → HasHundredths (decimal n ++ codes "%") m
whole_percentage m n small is =
    let p = printed n (omega (arith, is, small)) in
    let value : digits_value 10 (decimal n ++ []) ≡ n = rw append-nil p.value in
    record {
      whole = decimal n;
      point = [];
      fraction = [];
      text_is = refl;
      whole_digits = p.digits;
      fraction_digits = λ k d lt. absurd (omega (arith, lt));
      some_whole = (p.some, length-decimal-le 3 n (omega arith) (omega (arith, is, small)) (omega (arith, is, small)));
      some_fraction = inl (refl, refl);
      value = rw value (omega (arith, is));
      at_most = small;
    }

percentage_with_point : (m n tenths rest : ℕ) → m ≤ 10000 → tenths < 10 → rest < 10 → m ≡ 100 * n + 10 * tenths + rest
    → HasHundredths (decimal n ++ (codes "." ++ (decimal tenths ++ (decimal rest ++ codes "%")))) m
percentage_with_point m n tenths rest small one two is =
    let p = printed n (omega (arith, is, small)) in
    let a = one_digit tenths one in
    let b = one_digit rest two in
    let size : length (decimal tenths ++ decimal rest) ≡ 2 =
    omega (arith, length-append (decimal tenths) (decimal rest), a.1, b.1) in
    let joined : digits_value 10 (decimal tenths ++ decimal rest) ≡ tenths * 10 ^ 1 + rest =
    (let j = digits_value-append (decimal tenths) (decimal rest) in rw (b.1, a.2, b.2) at j) in
    let value : digits_value 10 (decimal n ++ (decimal tenths ++ decimal rest)) ≡ n * 10 ^ 2 +
    (tenths * 10 ^ 1 + rest) = (let j = digits_value-append (decimal n) (decimal tenths ++ decimal rest) in
    rw (size, p.value, joined) at j) in
    record {
      whole = decimal n;
      point = codes ".";
      fraction = decimal tenths ++ decimal rest;
      text_is = ap (λ r. decimal n ++ (codes "." ++ r))
          (sym (append_assoc (decimal tenths) (decimal rest) (codes "%")));
      whole_digits = p.digits;
      fraction_digits = All-append (λ byte. is_ascii_digit byte ≡ true) (decimal tenths) (decimal rest) a.0 b.0;
      some_whole = (p.some, length-decimal-le 3 n (omega arith) (omega (arith, is, small)) (omega (arith, is, small)));
      some_fraction = inr (refl, omega (arith, size), omega (arith, size));
      value = rw (size, value) (omega (arith, is));
      at_most = small;
    }

pub percent_reads_back : (m : ℕ) → m ≤ 10000 → HasHundredths (percent_text m) m
percent_reads_back m small =
    ⊎_elim (λ (w : ((m % 100 == 0) ≡ true) × (m % 100 ≡ 0)).
    let is : m ≡ 100 * (m / 100) = omega (arith, w.1) in
    rw w.0 (whole_percentage m (m / 100) small is))
    (λ (w : ((m % 100 == 0) ≡ false) × (m % 100 ≢ 0)).
    let is : m ≡ 100 * (m / 100) + 10 * (m / 10 % 10) + m % 10 = omega arith in
    rw w.0 (percentage_with_point m (m / 100) (m / 10 % 10) (m % 10) small (omega arith) (omega arith) is))
    (eqb_tells (m % 100) 0)
