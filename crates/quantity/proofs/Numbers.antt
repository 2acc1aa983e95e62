-- The parts of a number at the beginning of a text.
use Rattle.std.proofs.Common.{◌≡◌, ◌≢◌, ◌≤◌, ◌<◌, ◌^◌, ◌+◌, ◌*◌, ◌⊎◌, ⊎_elim, ℕ, suc, Bool, true, false, List, []}
use Rattle.std.proofs.Common.{◌∷◌, ◌++◌, length, drop, get_or, sym, ◌∙◌, ap, refl, arith, inl, inr}
use Rattle.std.specs.Prelude.{slice_get, ◌==◌, unwrap_or, codes}
use Rattle.std.specs.Char.{is_ascii_digit, digit_value}
use Rattle.std.specs.Int.{div_ceil}
use Rattle.std.specs.List.{prefix_len}
use Rattle.std.specs.Str.Parse.{digits_value, digits_value_after}
use Rattle.std.proofs.lemmas.Bool.{cases_lt}
use Rattle.std.proofs.lemmas.Bool.Decides.{nat_tests}
use Rattle.std.proofs.lemmas.Option.{unwrap_or-slice_get}
use Rattle.std.proofs.lemmas.Grind.{div_ceil_times}
use Rattle.std.proofs.lemmas.List.{take_at, drop_at, get_or_append_left, get_or-append-add, take-append-drop}
use Rattle.std.proofs.lemmas.List.{length-append}
use Rattle.std.proofs.lemmas.List.Sums.{prefix_len_is}
use Rattle.std.proofs.Math.Nat.{pow-suc}
use Rattle.quantity.specs.rule.Digits.{leading_digits, after_digits}
use Rattle.quantity.specs.state.Digits.{AllDigits}
use Rattle.quantity.specs.rule.Number.{whole_of, has_point, fraction_of, after_number}
use Rattle.quantity.specs.rule.Quantity.{number_value}
use Rattle.quantity.specs.state.Quantity.{IsLeastNotBelow}
use Rattle.quantity.proofs.Decimal.{product_le, leading_are_digits}

here : (digits rest : List ℕ) → get_or (digits ++ rest) (length digits) 0 ≡ get_or rest 0 0
here digits rest =
    let e : length digits + 0 ≡ length digits = omega arith in
    rw e at (get_or-append-add digits rest 0 0)

-- digits, and what does not begin with one
pub prefix_len-digits : (digits rest : List ℕ) → AllDigits digits → is_ascii_digit (get_or rest 0 0) ≡ false
    → prefix_len is_ascii_digit (digits ++ rest) ≡ length digits
prefix_len-digits digits rest all stop =
    let long : length digits ≤ length (digits ++ rest) = omega (arith, length-append digits rest) in
    prefix_len_is is_ascii_digit (digits ++ rest) (length digits) 0 long
    (λ k lt. rw (get_or_append_left digits rest 0 k lt) (all k 0 lt))
    (λ _. rw (here digits rest) stop)

pub leading-append : (digits rest : List ℕ) → AllDigits digits → is_ascii_digit (get_or rest 0 0) ≡ false
    → leading_digits (digits ++ rest) ≡ digits
leading-append digits rest all stop = rw (prefix_len-digits digits rest all stop)
    (take_at digits rest (length digits) refl)

pub after-append : (digits rest : List ℕ) → AllDigits digits → is_ascii_digit (get_or rest 0 0) ≡ false
    → after_digits (digits ++ rest) ≡ rest
after-append digits rest all stop = rw (prefix_len-digits digits rest all stop)
    (drop_at digits rest (length digits) refl)

-- a number with a point
pub parts_with_point : (whole fraction rest : List ℕ) → AllDigits whole → AllDigits fraction
    → is_ascii_digit (get_or rest 0 0) ≡ false → (whole_of (whole ++ (46 ∷ (fraction ++ rest))) ≡ whole)
    × (fraction_of (whole ++ (46 ∷ (fraction ++ rest))) ≡ fraction)
    × (after_number (whole ++ (46 ∷ (fraction ++ rest))) ≡ rest)
    × (has_point (whole ++ (46 ∷ (fraction ++ rest))) ≡ true)
parts_with_point whole fraction rest all more stop =
    let front = leading-append whole (46 ∷ (fraction ++ rest)) all refl in
    let behind = after-append whole (46 ∷ (fraction ++ rest)) all refl in (
      front,
      rw behind (leading-append fraction rest more stop),
      rw behind (after-append fraction rest more stop),
      rw
          behind refl,
    )

-- a number without one
pub parts_without_point : (whole rest : List ℕ) → AllDigits whole → is_ascii_digit (get_or rest 0 0) ≡ false
    → get_or rest 0 0 ≢ 46 → (whole_of (whole ++ rest) ≡ whole) × (fraction_of (whole ++ rest) ≡ [])
    × (after_number (whole ++ rest) ≡ rest) × (has_point (whole ++ rest) ≡ false)
parts_without_point whole rest all stop differs =
    let front = leading-append whole rest all stop in
    let behind = after-append whole rest all stop in
    let none : (unwrap_or (slice_get rest 0) 0 == 46) ≡ false = rw (unwrap_or-slice_get rest 0 0)
    (grind (arith, nat_tests)) in
    (front, rw (behind, none) refl, rw (behind, none) refl, rw behind none)

-- a text is its digits and what follows them
pub whole_text : (text : List ℕ) → text ≡ leading_digits text ++ after_digits text
whole_text text = sym (take-append-drop (prefix_len is_ascii_digit text) text)

-- the parts of a text, put together again
pub record NumberSplit (text : List ℕ) : Type 0 where
  pub point : List ℕ
  pub text_is : text ≡ whole_of text ++ (point ++ (fraction_of text ++ after_number text))
  pub point_is : ((point ≡ []) × (fraction_of text ≡ []) × (has_point text ≡ false)) ⊎
      ((point ≡ codes ".") × (has_point text ≡ true))
  pub fraction_digits : AllDigits (fraction_of text)

pub point_first : (text : List ℕ) → (unwrap_or (slice_get text 0) 0 == 46) ≡ true → text ≡ 46 ∷ drop 1 text
point_first [] h = absurd (cc)
point_first (c ∷ text) h = let e : c ≡ 46 = grind (arith, nat_tests) in rw e refl

pub number_split : (text : List ℕ) (d : Bool) → has_point text ≡ d → NumberSplit text
number_split text true e =
    let first = point_first (after_digits text) e in
    let behind = whole_text (drop 1 (after_digits text)) in
    record {
      point = codes ".";
      text_is = rw e (whole_text text ∙ ap (λ r. leading_digits text ++ r) (first ∙ ap (λ r. 46 ∷ r) behind));
      point_is = inr (refl, e);
      fraction_digits = rw e (leading_are_digits (drop 1 (after_digits text)));
    }
number_split text false e = record {
  point = [];
  text_is = rw e (whole_text text);
  point_is = inl (refl, rw e refl, e);
  fraction_digits = rw e (λ k d lt. absurd (omega arith));
}

-- digits after a number
pub digits_value_after_is : (n : ℕ) (digits : List ℕ) → digits_value_after 10 n digits ≡ n * 10 ^ length digits +
    digits_value 10 digits
digits_value_after_is n [] = omega arith
digits_value_after_is n (c ∷ cs) =
    let p : 10 ^ suc (length cs) ≡ 10 ^ length cs * 10 = pow-suc 10 (length cs) in
    let one : digits_value_after 10 (n * 10 + digit_value c) cs ≡ (n * 10 + digit_value c) * 10 ^ length cs +
    digits_value 10 cs = digits_value_after_is (n * 10 + digit_value c) cs in
    let two : digits_value_after 10 (0 + digit_value c) cs ≡ (0 + digit_value c) * 10 ^ length cs + digits_value 10
    cs = digits_value_after_is (0 + digit_value c) cs in
    rw (p, one, two) (omega arith)

pub digits_value_after-append : (n : ℕ) (xs ys : List ℕ) → digits_value_after 10 n (xs ++ ys) ≡ digits_value_after 10
    (digits_value_after 10 n xs) ys
digits_value_after-append n [] ys = refl
digits_value_after-append n (x ∷ xs) ys = digits_value_after-append (n * 10 + digit_value x) xs ys

pub digits_value-append : (whole fraction : List ℕ) → digits_value 10 (whole ++ fraction) ≡ number_value whole fraction
digits_value-append whole fraction = digits_value_after-append 0 whole fraction ∙ digits_value_after_is
    (digits_value 10 whole) fraction

-- rounded up
pub ceil_at_most : (a b n : ℕ) → 0 < b → a ≤ n * b → div_ceil a b ≤ n
ceil_at_most a b n some enough =
    ⊎_elim (λ (over : n < div_ceil a b).
    let p : (n + 1) * b ≤ div_ceil a b * b = product_le (n + 1) b (div_ceil a b) b (omega (arith, over)) (omega arith)
    in
    let t : div_ceil a b * b < a + b = (div_ceil_times a b some).1 in
    let e : (n + 1) * b ≡ n * b + b = omega arith in
    let bad : n * b + b < a + b = omega (arith, p, t, e) in
    absurd (omega (arith, bad, enough)))
    (λ (h : div_ceil a b ≤ n). h)
    (cases_lt n (div_ceil a b))

pub div_ceil_is_least : (a b : ℕ) → 0 < b → IsLeastNotBelow (div_ceil a b) a b
div_ceil_is_least a b some = record {
  not_below = (div_ceil_times a b some).0;
  least = λ n enough. ceil_at_most a b n some enough;
}

pub least_is_one : (m n a b : ℕ) → IsLeastNotBelow m a b → IsLeastNotBelow n a b → m ≡ n
least_is_one m n a b one two =
    let low : m ≤ n = one.least n two.not_below in
    let high : n ≤ m = two.least m one.not_below in
    omega arith
