-- The number of a text is the longest run of digits with at most one point.
use Rattle.std.proofs.Common.{◌≡◌, ◌≢◌, ◌≤◌, ◌<◌, ◌+◌, ◌⊎◌, ⊎_elim, inl, inr, ℕ, suc, Bool, true, false, cond, List}
use Rattle.std.proofs.Common.{[], ◌∷◌, ◌++◌, length, drop, get_or, sym, ◌∙◌, ap, refl, arith, append_assoc}
use Rattle.std.specs.Prelude.{slice_get, unwrap_or, ◌==◌, All, count_by}
use Rattle.std.specs.Char.{is_ascii_digit}
use Rattle.std.proofs.lemmas.Bool.{false≢true, cases_lt}
use Rattle.std.proofs.lemmas.Bool.Decides.{nat_tests}
use Rattle.std.proofs.lemmas.Option.{unwrap_or-slice_get}
use Rattle.std.proofs.lemmas.List.{get_or_at, length-append, append-nil}
use Rattle.std.proofs.lemmas.List.Elements.{All-cons, All-append}
use Rattle.std.proofs.lemmas.List.Sums.{sum_by-append, sum_by-cons}
use Rattle.quantity.specs.rule.Digits.{after_digits, leading_digits}
use Rattle.quantity.specs.state.Digits.{AllDigits}
use Rattle.quantity.specs.state.Laws.{NumberIsLongestRun}
use Rattle.quantity.specs.rule.Number.{has_point}
use Rattle.quantity.specs.state.Number.{IsRun}
use Rattle.quantity.proofs.Decimal.{digit_value_is, leading_are_digits}
use Rattle.quantity.proofs.Numbers.{whole_text, point_first}
use Rattle.quantity.proofs.QuantityLaws.{after_stops}

points : List ℕ → ℕ
points bytes = count_by (λ byte. byte == 46) bytes

points-append : (xs ys : List ℕ) → points (xs ++ ys) ≡ points xs + points ys
unfolding points
points-append xs ys = sum_by-append (λ byte. cond (byte == 46) 1 0) xs ys

points-cons : (x : ℕ) (xs : List ℕ) → points (x ∷ xs) ≡ cond (x == 46) 1 0 + points xs
unfolding points
points-cons x xs = sum_by-cons (λ byte. cond (byte == 46) 1 0) x xs

points-digits : (digits : List ℕ) → AllDigits digits → points digits ≡ 0
unfolding points
points-digits [] all = refl
points-digits (c ∷ digits) all =
    let high : 48 ≤ c = (digit_value_is c (all 0 0 (omega arith))).1 in
    let none : (c == 46) ≡ false = grind (arith, nat_tests) in
    let rest = points-digits digits (λ k d lt. all (suc k) d (omega arith)) in
    points-cons c digits ∙ rw (none, rest)

-- a longer front goes on with a byte of the rest
record GoesOn (front back run rest : List ℕ) : Type 0 where
  byte : ℕ
  more : List ℕ
  run_is : run ≡ front ++ byte ∷ more
  back_is : back ≡ byte ∷ (more ++ rest)

goes_on : (front back run rest : List ℕ) → front ++ back ≡ run ++ rest → length front < length run
    → GoesOn front back run rest
goes_on [] back [] rest e lt = absurd (omega arith)
goes_on [] back (b ∷ run) rest e lt = record { byte = b; more = run; run_is = refl; back_is = e }
goes_on (c ∷ front) back [] rest e lt = absurd (omega arith)
goes_on (c ∷ front) back (b ∷ run) rest e lt =
    let first : c ≡ b = cc in
    let tail : front ++ back ≡ run ++ rest = cc in
    let g = goes_on front back run rest tail (omega arith) in
    record { byte = g.byte; more = g.more; run_is = (let r = g.run_is in cc); back_is = g.back_is }

-- the byte after a front, in a run
byte_of_run : (front : List ℕ) (byte : ℕ) (more : List ℕ) → IsRun (front ++ byte ∷ more)
    → (is_ascii_digit byte ≡ true) ⊎ (byte ≡ 46)
byte_of_run front byte more run =
    let lt : length front < length (front ++ byte ∷ more) = omega (arith, length-append front (byte ∷ more)) in
    let at : get_or (front ++ byte ∷ more) (length front) 0 ≡ byte = get_or_at front byte more 0 (length front) refl in
    rw at at (run.0 (length front) 0 lt)

-- no longer run: the next byte is no digit, and is a point only after another point
no_longer : (front back run rest : List ℕ) → front ++ back ≡ run ++ rest → is_ascii_digit (get_or back 0 0) ≡ false
    → (get_or back 0 0 ≡ 46 → 1 ≤ points front) → IsRun run → length run ≤ length front
unfolding points
no_longer front back run rest e stop point is =
    ⊎_elim (λ (lt : length front < length run). absurd (
    let g = goes_on front back run rest e lt in
    let at : get_or back 0 0 ≡ g.byte = ap (λ (bytes : List ℕ). get_or bytes 0 0) g.back_is in
    let here : IsRun (front ++ g.byte ∷ g.more) = rw (← g.run_is) is in
    ⊎_elim (λ (d : is_ascii_digit g.byte ≡ true). false≢true (let s : is_ascii_digit g.byte ≡ false =
    rw (← at) stop in sym s ∙ d))
    (λ (p : g.byte ≡ 46).
    let one : 1 ≤ points front = point (at ∙ p) in
    let sum = points-append front (g.byte ∷ g.more) in
    let two = points-cons g.byte g.more in
    let this : (g.byte == 46) ≡ true = grind (arith, nat_tests) in
    let three : points (g.byte ∷ g.more) ≡ 1 + points g.more = rw this at two in
    let few : points (front ++ g.byte ∷ g.more) ≤ 1 = here.1 in
    omega (arith, one, sum, three, few))
    (byte_of_run front g.byte g.more here)))
    (λ (le : length run ≤ length front). le)
    (cases_lt (length front) (length run))

digits_run : (digits : List ℕ) → AllDigits digits → All (λ byte. (is_ascii_digit byte ≡ true) ⊎ (byte ≡ 46)) digits
digits_run digits all k d lt = inl (all k d lt)

pub no_point : (text : List ℕ) → has_point text ≡ false → get_or (after_digits text) 0 0 ≢ 46
no_point text e p =
    let v : unwrap_or (slice_get (after_digits text) 0) 0 ≡ 46 = unwrap_or-slice_get (after_digits text) 0 0 ∙ p in
    let t : has_point text ≡ true = rw v refl in
    false≢true (sym e ∙ t)

pointed : (text : List ℕ) → has_point text ≡ true
    → text ≡ (leading_digits text ++ 46 ∷ leading_digits (drop 1 (after_digits text)))
    ++ after_digits (drop 1 (after_digits text))
pointed text e =
    let first = point_first (after_digits text) e in
    let behind = whole_text (drop 1 (after_digits text)) in
    whole_text text ∙ ap (λ r. leading_digits text ++ r) (first ∙ ap (λ r. 46 ∷ r) behind)
    ∙ sym (append_assoc (leading_digits text) (46 ∷ leading_digits (drop 1 (after_digits text)))
    (after_digits (drop 1 (after_digits text))))

points_of_pointed : (whole fraction : List ℕ) → AllDigits whole → AllDigits fraction
    → points (whole ++ 46 ∷ fraction) ≡ 1
points_of_pointed whole fraction all more =
    let a = points-append whole (46 ∷ fraction) in
    let b : points (46 ∷ fraction) ≡ 1 + points fraction = points-cons 46 fraction in
    let c = points-digits whole all in
    let d = points-digits fraction more in
    omega (arith, a, b, c, d)

run_by : (text : List ℕ) (d : Bool) → has_point text ≡ d → NumberIsLongestRun text
unfolding points
run_by text false e =
    let all = leading_are_digits text in
    record {
      text_is = rw (e, append-nil) (whole_text text);
      is_run = rw (e, append-nil)
          (digits_run (leading_digits text) all, omega (arith, points-digits (leading_digits text) all));
      longest = λ run rest t is. rw (e, append-nil)
          (no_longer (leading_digits text) (after_digits text) run rest (sym (whole_text text) ∙ t) (after_stops text)
          (λ p. absurd (no_point text e p)) is);
    }
run_by text true e =
    let all = leading_are_digits text in
    let more = leading_are_digits (drop 1 (after_digits text)) in
    let one = points_of_pointed (leading_digits text) (leading_digits (drop 1 (after_digits text))) all more in
    let some : 1 ≤ points (leading_digits text ++ 46 ∷ leading_digits (drop 1 (after_digits text))) =
    omega (arith, one) in
    let each = All-append (λ byte. (is_ascii_digit byte ≡ true) ⊎ (byte ≡ 46)) (leading_digits text)
    (46 ∷ leading_digits (drop 1 (after_digits text))) (digits_run _ all)
    (All-cons (λ byte. (is_ascii_digit byte ≡ true) ⊎ (byte ≡ 46)) 46
    (leading_digits (drop 1 (after_digits text))) (inr refl) (digits_run _ more)) in
    record {
      text_is = rw e (pointed text e);
      is_run = rw e (each, omega (arith, one));
      longest = λ run rest t is. rw e
          (no_longer (leading_digits text ++ 46 ∷ leading_digits (drop 1 (after_digits text)))
          (after_digits (drop 1 (after_digits text))) run rest (sym (pointed text e) ∙ t)
          (after_stops (drop 1 (after_digits text))) (λ p. some) is);
    }

pub number_is_run : (text : List ℕ) → NumberIsLongestRun text
number_is_run text = run_by text (has_point text) refl
