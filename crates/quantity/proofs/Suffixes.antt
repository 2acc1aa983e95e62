-- A suffix is read as what it means.
use Rattle.std.proofs.Common.{◌≡◌, ◌≢◌, ◌≤◌, ◌<◌, ◌^◌, ◌⊎◌, ⊎_elim, inl, inr, ℕ, suc, Bool, true, false, List, []}
use Rattle.std.proofs.Common.{◌∷◌, ◌++◌, length, map, take, drop, get_or, sym, ◌∙◌, ap, refl, subst, arith}
use Rattle.std.proofs.Common.{Some, None, Option}
use Rattle.std.specs.Prelude.{◌==◌, codes, Contains, option_map, if◌then◌else◌, nat_le, ◌&&◌, ◌||◌}
use Rattle.std.specs.List.{AllByRecursion}
use Rattle.std.specs.Char.{is_ascii_digit}
use Rattle.std.specs.Str.Parse.{digits_value}
use Rattle.std.proofs.lemmas.Bool.Decides.{nat_tests, eqb_tells}
use Rattle.std.proofs.lemmas.List.{append-nil, nil_from_length, length-append}
use Rattle.std.proofs.lemmas.List.Elements.{All-from_recursion, Contains-append_left, Contains-append_right}
use Rattle.std.proofs.Math.Nat.{one-le-pow}
use Rattle.quantity.specs.rule.Digits.{after_digits, leading_digits}
use Rattle.quantity.specs.state.Digits.{AllDigits}
use Rattle.quantity.specs.rule.Suffix.{factor_of, times, divided_by}
use Rattle.quantity.specs.state.Suffix.{HasFactor, IsExponent, IsInBounds, named_factors}
use Rattle.quantity.specs.rule.Suffix.{power_of, exponent_factor, factor_for, decimal_factors, binary_factors}
use Rattle.quantity.specs.rule.Suffix.{decimal_factor, binary_factor, begins_exponent}
use Rattle.quantity.specs.declared.suffix.Factor.{Factor}
use Rattle.quantity.proofs.Decimal.{ten_mono, digit_value_is, leading_are_digits}
use Rattle.quantity.proofs.Numbers.{after-append, whole_text}

-- From what it means to what is read.

-- what holds of a suffix and its factor
pub record Reads (suffix : List ℕ) (factor : Factor) : Type 0 where
  pub read : factor_of suffix ≡ Some factor
  pub no_digit : is_ascii_digit (get_or suffix 0 0) ≡ false
  pub no_point : get_or suffix 0 0 ≢ 46
  pub scale : IsInBounds factor

times_scale : (n : ℕ) → n ≤ 2 ^ 60 → IsInBounds (times n)
times_scale n h = record { small = h; positive = omega arith; fine = omega arith }

divided_scale : (n : ℕ) → 0 < n → n ≤ 10 ^ 18 → IsInBounds (divided_by n)
divided_scale n some h = record { small = omega arith; positive = some; fine = h }

reads_times : (suffix : List ℕ) (n : ℕ) → factor_of suffix ≡ Some (times n)
    → is_ascii_digit (get_or suffix 0 0) ≡ false → (get_or suffix 0 0 == 46) ≡ false → nat_le n (2 ^ 60) ≡ true
    → Reads suffix (times n)
reads_times suffix n read digit point small =
    record {
      read = read;
      no_digit = digit;
      no_point = grind (arith, nat_tests);
      scale = times_scale n (grind (arith, nat_tests));
    }

reads_divided : (suffix : List ℕ) (n : ℕ) → factor_of suffix ≡ Some (divided_by n)
    → is_ascii_digit (get_or suffix 0 0) ≡ false → (get_or suffix 0 0 == 46) ≡ false
    → (nat_le 1 n && nat_le n (10 ^ 18)) ≡ true → Reads suffix (divided_by n)
reads_divided suffix n read digit point bounds =
    record {
      read = read;
      no_digit = digit;
      no_point = grind (arith, nat_tests);
      scale = divided_scale n (grind (arith, nat_tests)) (grind (arith, nat_tests));
    }

each_reads : AllByRecursion (λ (e : List ℕ × Factor). Reads e.0 e.1) named_factors
unfolding factor_of
each_reads = (
  reads_times (codes "") 1 refl refl refl refl,
  (
    reads_divided (codes "n") (10 ^ 9) refl refl refl refl,
    (
      reads_divided (codes "u") (10 ^ 6) refl refl refl refl,
      (
        reads_divided (codes "m") (10 ^ 3) refl refl refl refl,
        (
          reads_times (codes "k") (10 ^ 3) refl refl refl refl,
          (
            reads_times (codes "M") (10 ^ 6) refl refl refl refl,
            (
              reads_times (codes "G") (10 ^ 9) refl refl refl refl,
              (
                reads_times (codes "T") (10 ^ 12) refl refl refl refl,
                (
                  reads_times (codes "P") (10 ^ 15) refl refl refl refl,
                  (
                    reads_times (codes "E") (10 ^ 18) refl refl refl refl,
                    (
                      reads_times (codes "Ki") (2 ^ 10) refl refl refl refl,
                      (
                        reads_times (codes "Mi") (2 ^ 20) refl refl refl refl,
                        (
                          reads_times (codes "Gi") (2 ^ 30) refl refl refl refl,
                          (
                            reads_times (codes "Ti") (2 ^ 40) refl refl refl refl,
                            (
                              reads_times (codes "Pi") (2 ^ 50) refl refl refl refl,
                              (
                                reads_times (codes "Ei") (2 ^ 60) refl refl refl refl,
                                tt,
                              ),
                            ),
                          ),
                        ),
                      ),
                    ),
                  ),
                ),
              ),
            ),
          ),
        ),
      ),
    ),
  ),
)

reads_named : (suffix : List ℕ) (factor : Factor) → Contains named_factors (suffix, factor) → Reads suffix factor
reads_named suffix factor at =
    let P : List ℕ × Factor → Type 0 = λ e. Reads e.0 e.1 in
    subst P at.2 (All-from_recursion P named_factors each_reads at.0 (suffix, factor) at.1)

-- one or two digits, up to 18
power_read : (digits : List ℕ) → AllDigits digits → 1 ≤ length digits → length digits ≤ 2
    → digits_value 10 digits ≤ 18 → power_of digits ≡ Some (10 ^ digits_value 10 digits)
power_read digits all some few small =
    let none : after_digits digits ≡ [] = (let h = after-append digits [] all refl in rw append-nil at h) in
    let size : (length digits == 1 || length digits == 2) ≡ true = grind (arith, nat_tests) in
    let fits : nat_le (digits_value 10 digits) 18 ≡ true = grind (arith, nat_tests) in
    rw (size, none, fits)

power_bounds : (n : ℕ) → n ≤ 18 → (0 < 10 ^ n) × (10 ^ n ≤ 10 ^ 18)
power_bounds n small = let some : 0 < 10 = omega arith in (one-le-pow n 10 some, ten_mono n 18 small)

-- a letter and what follows it
exponent_read : (letter : List ℕ) (text : List ℕ) → (letter ≡ codes "e") ⊎ (letter ≡ codes "E") → 0 < length text
    → get_or text 0 0 ≢ 105 → factor_of (letter ++ text) ≡ exponent_factor text
unfolding factor_of
exponent_read letter text is some differs =
    let zero' : (suc (length text) == 0) ≡ false = grind (arith, nat_tests) in
    let one : (suc (length text) == 1) ≡ false = grind (arith, nat_tests) in
    let two : ((suc (length text) == 2) && (get_or text 0 0 == 105)) ≡ false = grind (arith, nat_tests) in
    ⊎_elim (λ (e : letter ≡ codes "e"). rw (e, zero', one, two)) (λ (e : letter ≡ codes "E"). rw (e, zero', one, two))
    is

exponent_first : (letter text : List ℕ) → (letter ≡ codes "e") ⊎ (letter ≡ codes "E")
    → (is_ascii_digit (get_or (letter ++ text) 0 0) ≡ false) × (get_or (letter ++ text) 0 0 ≢ 46)
exponent_first letter text is = ⊎_elim (λ (e : letter ≡ codes "e"). rw e (refl, λ h. cc))
    (λ (e : letter ≡ codes "E"). rw e (refl, λ h. cc)) is

digit_between : (digits : List ℕ) → AllDigits digits → 1 ≤ length digits → (48 ≤ get_or digits 0 0)
    × (get_or digits 0 0 ≤ 57)
digit_between digits all some = let d = digit_value_is (get_or digits 0 0) (all 0 0 some) in (d.1, d.2)

-- what follows the letter is read
record ReadsSigned (text : List ℕ) (factor : Factor) : Type 0 where
  read : exponent_factor text ≡ Some factor
  differs : get_or text 0 0 ≢ 105
  scale : IsInBounds factor

signed_read : (suffix : List ℕ) (factor : Factor) (e : IsExponent suffix factor)
    → ReadsSigned (e.sign ++ e.digits) factor
signed_read suffix factor e =
    let power = power_read e.digits e.all_digits e.one_or_two.0 e.one_or_two.1 e.at_most in
    let bounds = power_bounds (digits_value 10 e.digits) e.at_most in
    let high : 10 ^ digits_value 10 e.digits ≤ 2 ^ 60 = omega (arith, bounds.1) in
    let first = digit_between e.digits e.all_digits e.one_or_two.0 in
    let low : 48 ≤ get_or e.digits 0 0 = first.0 in
    let under : get_or e.digits 0 0 ≤ 57 = first.1 in
    let minus : (get_or e.digits 0 0 == 45) ≡ false = grind (arith, nat_tests) in
    let plus : (get_or e.digits 0 0 == 43) ≡ false = grind (arith, nat_tests) in
    ⊎_elim (λ (up : ((e.sign ≡ []) ⊎ (e.sign ≡ codes "+")) × (factor ≡ times (10 ^ digits_value 10 e.digits))).
    ⊎_elim (λ (none : e.sign ≡ []). let r : ReadsSigned (e.sign ++ e.digits) factor =
    record {
      read = rw (none, up.1, minus, plus, power);
      differs = rw none (λ h. omega arith);
      scale = rw up.1 (times_scale (10 ^ digits_value 10 e.digits) high);
    } in r)
    (λ (sign : e.sign ≡ codes "+"). let r : ReadsSigned (e.sign ++ e.digits) factor =
    record {
      read = rw (sign, up.1, power);
      differs = rw sign (λ h. cc);
      scale = rw up.1 (times_scale (10 ^ digits_value 10 e.digits) high);
    } in r)
    up.0)
    (λ (down : (e.sign ≡ codes "-") × (factor ≡ divided_by (10 ^ digits_value 10 e.digits))).
    let r : ReadsSigned (e.sign ++ e.digits) factor =
    record {
      read = rw (down.0, down.1, power);
      differs = rw down.0 (λ h. cc);
      scale = rw down.1 (divided_scale (10 ^ digits_value 10 e.digits) bounds.0 bounds.1);
    } in r)
    e.factor_is

reads_exponent : (suffix : List ℕ) (factor : Factor) → IsExponent suffix factor → Reads suffix factor
reads_exponent suffix factor e =
    let after = signed_read suffix factor e in
    let some : 0 < length (e.sign ++ e.digits) = omega (arith, length-append e.sign e.digits, e.one_or_two.0) in
    let first = exponent_first e.letter (e.sign ++ e.digits) e.letter_is in
    record {
      read = rw e.suffix_is (exponent_read e.letter (e.sign ++ e.digits) e.letter_is some after.differs ∙ after.read);
      no_digit = rw e.suffix_is first.0;
      no_point = rw e.suffix_is first.1;
      scale = after.scale;
    }

-- what a suffix means is what is read of it
pub factor_reads : (suffix : List ℕ) (factor : Factor) → HasFactor suffix factor → Reads suffix factor
factor_reads suffix factor h = ⊎_elim (reads_named suffix factor) (reads_exponent suffix factor) h

-- From what is read to what it means.

-- a table whose letters have these names holds what it has for a letter
named_in : (name : ℕ → List ℕ) (table : List (ℕ × Factor)) (letter : ℕ) (factor : Factor)
    → factor_for table letter ≡ Some factor
    → Contains {X = List ℕ × Factor} (map (λ (e : ℕ × Factor). (name e.0, e.1)) table) (name letter, factor)
named_in name [] letter factor h = absurd (cc)
named_in name (entry ∷ table) letter factor h =
    ⊎_elim (λ (t : ((letter == entry.0) ≡ true) × (letter ≡ entry.0)).
    let e : Some entry.1 ≡ Some factor = (rw t.0 at h) in
    let same : entry.1 ≡ factor = cc in
    rw (t.1, ← same) (0, omega arith, refl))
    (λ (f : ((letter == entry.0) ≡ false) × (letter ≢ entry.0)).
    let later = named_in name table letter factor (rw f.0 at h) in
    let below = later.1 in
    (suc later.0, omega (arith, below), later.2))
    (eqb_tells letter entry.0)

decimal_named : (letter : ℕ) (factor : Factor) → decimal_factor letter ≡ Some factor
    → Contains named_factors (letter ∷ [], factor)
decimal_named letter factor h =
    let named = named_in (λ letter. letter ∷ []) decimal_factors letter factor h in
    Contains-append_right (take 1 named_factors) (drop 1 named_factors) (letter ∷ [], factor)
    (Contains-append_left (take 9 (drop 1 named_factors)) (drop 10 named_factors) (letter ∷ [], factor) named)

binary_named : (letter : ℕ) (factor : Factor) → binary_factor letter ≡ Some factor
    → Contains named_factors (letter ∷ 105 ∷ [], factor)
binary_named letter factor h =
    let named = named_in (λ letter. letter ∷ 105 ∷ []) binary_factors letter factor h in
    Contains-append_right (take 10 named_factors) (drop 10 named_factors) (letter ∷ 105 ∷ [], factor) named

pub some_if : {A : Type 0} (test : Bool) (x y : A) → (if test then Some x else None) ≡ Some y → (test ≡ true) × (x ≡ y)
some_if true x y h = (refl, cc)
some_if false x y h = absurd (cc)

pub mapped : {A B : Type 0} (f : A → B) (o : Option A) (y : B) → option_map f o ≡ Some y → (x : A) × (o ≡ Some x)
    × (f x ≡ y)
mapped f None y h = absurd (cc)
mapped f (Some x) y h = (x, refl, cc)

record IsPower (digits : List ℕ) (n : ℕ) : Type 0 where
  all_digits : AllDigits digits
  some : 1 ≤ length digits
  few : length digits ≤ 2
  small : digits_value 10 digits ≤ 18
  power : n ≡ 10 ^ digits_value 10 digits

power_means : (digits : List ℕ) (n : ℕ) → power_of digits ≡ Some n → IsPower digits n
power_means digits n h =
    let t = some_if ((length digits == 1 || length digits == 2) &&
    (length (after_digits digits) == 0 && nat_le (digits_value 10 digits) 18)) (10 ^ digits_value 10 digits) n h in
    let test : ((length digits == 1 || length digits == 2) &&
    (length (after_digits digits) == 0 && nat_le (digits_value 10 digits) 18)) ≡ true = t.0 in
    let none : length (after_digits digits) ≡ 0 = grind (arith, nat_tests) in
    let whole : digits ≡ leading_digits digits =
    (let w = whole_text digits in let z = nil_from_length (after_digits digits) none in
    let e : digits ≡ leading_digits digits ++ [] = (rw (← z) w) in rw append-nil at e) in
    record {
      all_digits = rw whole (leading_are_digits digits);
      some = grind (arith, nat_tests);
      few = grind (arith, nat_tests);
      small = grind (arith, nat_tests);
      power = sym t.1;
    }

when : {A : Type 0} (test : Bool) (o : Option A) (y : A) → (if test then o else None) ≡ Some y → (test ≡ true)
    × (o ≡ Some y)
when true o y h = (refl, h)
when false o y h = absurd (cc)

-- the letter, a sign and the digits of a power
signed_means : (letter sign digits : List ℕ) (scaled : ℕ → Factor) (factor : Factor)
    → (letter ≡ codes "e") ⊎ (letter ≡ codes "E") → option_map scaled (power_of digits) ≡ Some factor
    → (factor ≡ scaled (10 ^ digits_value 10 digits)
    → (((sign ≡ []) ⊎ (sign ≡ codes "+")) × (factor ≡ times (10 ^ digits_value 10 digits)))
    ⊎ ((sign ≡ codes "-") × (factor ≡ divided_by (10 ^ digits_value 10 digits))))
    → IsExponent (letter ++ (sign ++ digits)) factor
signed_means letter sign digits scaled factor is h gives =
    let m = mapped scaled (power_of digits) factor h in
    let p = power_means digits m.0 m.1 in
    record {
      letter = letter;
      sign = sign;
      digits = digits;
      suffix_is = refl;
      letter_is = is;
      all_digits = p.all_digits;
      one_or_two = (p.some, p.few);
      at_most = p.small;
      factor_is = gives (sym m.2 ∙ ap scaled p.power);
    }

plus_means : (letter : List ℕ) (c : ℕ) (text : List ℕ) (factor : Factor) → (letter ≡ codes "e") ⊎ (letter ≡ codes "E")
    → (if c == 43 then option_map times (power_of text) else option_map times (power_of (c ∷ text))) ≡ Some factor
    → IsExponent (letter ++ c ∷ text) factor
plus_means letter c text factor is h =
    ⊎_elim (λ (t : ((c == 43) ≡ true) × (c ≡ 43)).
    rw t.1 (signed_means letter (codes "+") text times factor is (rw t.0 at h) (λ e. inl (inr refl, e))))
    (λ (f : ((c == 43) ≡ false) × (c ≢ 43)).
    signed_means letter [] (c ∷ text) times factor is (rw f.0 at h) (λ e. inl (inl refl, e)))
    (eqb_tells c 43)

exponent_means : (letter text : List ℕ) (factor : Factor) → (letter ≡ codes "e") ⊎ (letter ≡ codes "E")
    → exponent_factor text ≡ Some factor → IsExponent (letter ++ text) factor
exponent_means letter [] factor is h = absurd (cc)
exponent_means letter (c ∷ text) factor is h =
    ⊎_elim (λ (t : ((c == 45) ≡ true) × (c ≡ 45)).
    rw t.1 (signed_means letter (codes "-") text divided_by factor is (rw t.0 at h) (λ e. inr (refl, e))))
    (λ (f : ((c == 45) ≡ false) × (c ≢ 45)). plus_means letter c text factor is (rw f.0 at h))
    (eqb_tells c 45)

-- a suffix that begins as an exponent
rest_means : (c : ℕ) (text : List ℕ) (factor : Factor)
    → (if begins_exponent (c ∷ text) then exponent_factor text else None) ≡ Some factor → IsExponent (c ∷ text) factor
rest_means c text factor h =
    let t = when (begins_exponent (c ∷ text)) (exponent_factor text) factor h in
    ⊎_elim (λ (e : ((c == 101) ≡ true) × (c ≡ 101)). rw e.1 (exponent_means (codes "e") text factor (inl refl) t.1))
    (λ (f : ((c == 101) ≡ false) × (c ≢ 101)).
    let same : c ≡ 69 = (let b = rw f.0 at t.0 in grind (arith, nat_tests)) in
    rw same (exponent_means (codes "E") text factor (inr refl) t.1))
    (eqb_tells c 101)

pub factor_means : (suffix : List ℕ) (factor : Factor) → factor_of suffix ≡ Some factor → HasFactor suffix factor
unfolding factor_of
factor_means [] factor h = let e : times 1 ≡ factor = cc in inl (rw (← e) (0, omega arith, refl))
factor_means (c ∷ []) factor h = inl (decimal_named c factor h)
factor_means (c ∷ d ∷ []) factor h =
    ⊎_elim (λ (e : ((d == 105) ≡ true) × (d ≡ 105)). rw e.1 (inl (binary_named c factor (rw e.0 at h))))
    (λ (f : ((d == 105) ≡ false) × (d ≢ 105)). inr (rest_means c (d ∷ []) factor (rw f.0 at h)))
    (eqb_tells d 105)
factor_means (c ∷ d ∷ b ∷ text) factor h =
    let zero' : (suc (suc (suc (length text))) == 0) ≡ false = grind (arith, nat_tests) in
    let one : (suc (suc (suc (length text))) == 1) ≡ false = grind (arith, nat_tests) in
    let two : (suc (suc (suc (length text))) == 2) ≡ false = grind (arith, nat_tests) in
    inr (rest_means c (d ∷ b ∷ text) factor (rw (zero', one, two) at h))
