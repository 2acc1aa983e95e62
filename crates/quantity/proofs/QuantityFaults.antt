-- A quantity is refused for its first fault.
use Rattle.std.proofs.Common.{◌≡◌, ◌≢◌, ◌≤◌, ◌<◌, ◌+◌, ⊎_elim, inl, inr, ℕ, suc, Bool, true, false, cond, List, []}
use Rattle.std.proofs.Common.{◌∷◌, ◌++◌, length, take, drop, sym, ◌∙◌, ap, refl, arith, Err, Some, None, Option}
use Rattle.std.specs.Prelude.{slice_index, ◌==◌, nat_lt, count_by}
use Rattle.std.specs.Char.{is_ascii_digit}
use Rattle.std.proofs.lemmas.Bool.Decides.{nat_tests}
use Rattle.std.proofs.lemmas.List.{take_at, drop_at, append-nil}
use Rattle.std.proofs.lemmas.List.Sums.{sum_by-append, sum_by-cons}
use Rattle.quantity.specs.rule.Digits.{after_digits, leading_digits}
use Rattle.quantity.specs.state.Digits.{AllDigits}
use Rattle.quantity.specs.rule.Number.{whole_of, has_point, fraction_of, after_number}
use Rattle.quantity.specs.state.Number.{IsLongestRun, run_of}
use Rattle.quantity.specs.rule.Quantity.{after_plus, digit_count, number_value}
use Rattle.quantity.specs.state.Quantity.{HasQuantityFault, HasNumberFault}
use Rattle.quantity.specs.rule.Quantity.{thousandths_of, scaled_number_of, quantity_of}
use Rattle.quantity.specs.rule.Suffix.{factor_of, suffix_fault}
use Rattle.quantity.specs.state.Suffix.{HasFactor}
use Rattle.quantity.specs.declared.suffix.Factor.{Factor}
use Rattle.quantity.specs.declared.fault.QuantityFault.{QuantityFault}
use Rattle.quantity.specs.declared.fault.QuantityFault.TheVariants.{Empty, BadDigit, TooManyDigits, Negative}
use Rattle.quantity.proofs.Decimal.{leading_are_digits}
use Rattle.quantity.proofs.Quantities.{scaled_number_none}
use Rattle.quantity.proofs.Runs.{number_is_run}
use Rattle.quantity.proofs.StepsPassed.{failed, lacked, unsigned_fault}
use Rattle.quantity.proofs.Suffixes.{factor_reads, factor_means}

digits_in : List ℕ → ℕ
digits_in bytes = count_by is_ascii_digit bytes

digits_in-append : (xs ys : List ℕ) → digits_in (xs ++ ys) ≡ digits_in xs + digits_in ys
unfolding digits_in
digits_in-append xs ys = sum_by-append (λ byte. cond (is_ascii_digit byte) 1 0) xs ys

digits_in-cons : (x : ℕ) (xs : List ℕ) → digits_in (x ∷ xs) ≡ cond (is_ascii_digit x) 1 0 + digits_in xs
unfolding digits_in
digits_in-cons x xs = sum_by-cons (λ byte. cond (is_ascii_digit byte) 1 0) x xs

digits_in-all : (digits : List ℕ) → AllDigits digits → digits_in digits ≡ length digits
unfolding digits_in
digits_in-all [] all = refl
digits_in-all (c ∷ digits) all =
    let this : is_ascii_digit c ≡ true = all 0 0 (omega arith) in
    let rest = digits_in-all digits (λ k d lt. all (suc k) d (omega arith)) in
    digits_in-cons c digits ∙ rw (this, rest) (omega arith)

count_by_point : (text : List ℕ) (d : Bool) → has_point text ≡ d → digits_in (run_of text) ≡ digit_count text
count_by_point text true e =
    let whole = digits_in-all (leading_digits text) (leading_are_digits text) in
    let fraction = digits_in-all (leading_digits (drop 1 (after_digits text)))
    (leading_are_digits (drop 1 (after_digits text))) in
    let both = digits_in-append (leading_digits text) (46 ∷ leading_digits (drop 1 (after_digits text))) in
    let point : digits_in (46 ∷ leading_digits (drop 1 (after_digits text))) ≡ 0 + digits_in
    (leading_digits (drop 1 (after_digits text))) =
    digits_in-cons 46 (leading_digits (drop 1 (after_digits text))) in
    rw e (omega (arith, both, point, whole, fraction))
count_by_point text false e =
    let whole = digits_in-all (leading_digits text) (leading_are_digits text) in
    rw (e, append-nil) (omega (arith, whole))

count_is : (text : List ℕ) → count_by is_ascii_digit (run_of text) ≡ digit_count text
unfolding digits_in
count_is text = count_by_point text (has_point text) refl

-- From what is read to the first fault.

no_factor : (rest : List ℕ) → factor_of rest ≡ None → (factor : Factor) → ¬ HasFactor rest factor
no_factor rest none factor h = let some = (factor_reads rest factor h).read in cc

number_fault : (text : List ℕ) (fault : QuantityFault) → scaled_number_of text ≡ Err fault → HasNumberFault text fault
unfolding scaled_number_of
number_fault text fault h =
    let count = count_is text in
    let run = number_is_run text in
    ⊎_elim (λ (a : ((digit_count text == 0) ≡ true) × (fault ≡ BadDigit)).
    let t : (digit_count text == 0) ≡ true = a.0 in
    let none : digit_count text ≡ 0 = grind (arith, nat_tests) in
    let r : HasNumberFault text fault = record {
      run = run_of text;
      rest = after_number text;
      longest_run = run;
      fault_is = inl (count ∙ none, a.1);
    } in r)
    (λ (a : ((digit_count text == 0) ≡ false) × _).
    ⊎_elim (λ (b : (nat_lt 17 (digit_count text) ≡ true) × (fault ≡ TooManyDigits)).
    let t : nat_lt 17 (digit_count text) ≡ true = b.0 in
    let many : 17 < digit_count text = grind (arith, nat_tests) in
    let r : HasNumberFault text fault = record {
      run = run_of text;
      rest = after_number text;
      longest_run = run;
      fault_is = inr (inl (rw count many, b.1));
    } in r)
    (λ (b : (nat_lt 17 (digit_count text) ≡ false) × _).
    let l = lacked (factor_of (after_number text)) (suffix_fault (after_number text))
    (λ factor. thousandths_of (number_value (whole_of text) (fraction_of text)) (length (fraction_of text))
    factor) fault b.1 in
    let s : (digit_count text == 0) ≡ false = a.0 in
    let t : nat_lt 17 (digit_count text) ≡ false = b.0 in
    let some : 0 < digit_count text = grind (arith, nat_tests) in
    let few : digit_count text ≤ 17 = grind (arith, nat_tests) in
    let r : HasNumberFault text fault = record {
      run = run_of text;
      rest = after_number text;
      longest_run = run;
      fault_is = inr (inr (rw count some, rw count few, no_factor (after_number text) l.0, l.1));
    } in r)
    (failed (nat_lt 17 (digit_count text)) _ _ fault a.1))
    (failed (digit_count text == 0) _ _ fault h)

pub quantity_fault : (text : List ℕ) (fault : QuantityFault) → quantity_of text ≡ Err fault
    → HasQuantityFault text fault
unfolding quantity_of
quantity_fault text fault h =
    unsigned_fault (HasNumberFault (after_plus text) fault) text fault _ h (number_fault (after_plus text) fault)

-- From the first fault to what is read.

taken : (text run rest : List ℕ) (n : ℕ) → text ≡ run ++ rest → length run ≡ n → take n text ≡ run
taken text run rest n e h = ap (λ (t : List ℕ). take n t) e ∙ take_at run rest n h

dropped : (text run rest : List ℕ) (n : ℕ) → text ≡ run ++ rest → length run ≡ n → drop n text ≡ rest
dropped text run rest n e h = ap (λ (t : List ℕ). drop n t) e ∙ drop_at run rest n h

-- a text has one longest run
longest_is_run : (text run rest : List ℕ) → IsLongestRun text run rest → (run ≡ run_of text)
    × (rest ≡ after_number text)
longest_is_run text run rest l =
    let own = number_is_run text in
    let low : length run ≤ length (run_of text) = own.longest run rest l.text_is l.is_run in
    let high : length (run_of text) ≤ length run = l.longest (run_of text) (after_number text) own.text_is own.is_run in
    let same : length (run_of text) ≡ length run = omega (arith, low, high) in (
      sym (taken text run rest (length run) l.text_is refl) ∙ taken text (run_of text) (after_number text)
          (length run) own.text_is same,
      sym (dropped text run rest (length run) l.text_is refl) ∙ dropped text (run_of text) (after_number text)
          (length run) own.text_is same,
    )

none_from : (o : Option Factor) → ((factor : Factor) → o ≡ Some factor → ⊥) → o ≡ None
none_from None h = refl
none_from (Some factor) h = absurd (h factor refl)

bad_digit : (text : List ℕ) → digit_count text ≡ 0 → scaled_number_of text ≡ Err BadDigit
unfolding scaled_number_of
bad_digit text none = let t : (digit_count text == 0) ≡ true = grind (arith, nat_tests) in rw t refl

many_digits : (text : List ℕ) → 17 < digit_count text → scaled_number_of text ≡ Err TooManyDigits
unfolding scaled_number_of
many_digits text many =
    let s : (digit_count text == 0) ≡ false = grind (arith, nat_tests) in
    let t : nat_lt 17 (digit_count text) ≡ true = grind (arith, nat_tests) in
    rw (s, t) refl

number_refused : (text : List ℕ) (fault : QuantityFault) → HasNumberFault text fault → scaled_number_of text ≡ Err fault
number_refused text fault h =
    let own = longest_is_run text h.run h.rest h.longest_run in
    let count : count_by is_ascii_digit h.run ≡ digit_count text = rw own.0 (count_is text) in
    ⊎_elim (λ (a : (count_by is_ascii_digit h.run ≡ 0) × (fault ≡ BadDigit)). bad_digit text (sym count ∙ a.0)
    ∙ ap Err (sym a.1))
    (λ b. ⊎_elim (λ (a : (17 < count_by is_ascii_digit h.run) × (fault ≡ TooManyDigits)). many_digits text
    (rw (← count) a.0) ∙ ap Err (sym a.1))
    (λ (a : (0 < count_by is_ascii_digit h.run) × (count_by is_ascii_digit h.run ≤ 17)
    × ((factor : Factor) → ¬ HasFactor h.rest factor) × (fault ≡ suffix_fault h.rest)).
    let lacks : (factor : Factor) → ¬ HasFactor (after_number text) factor = rw (← own.1) a.2 in
    let none = none_from (factor_of (after_number text))
    (λ factor e. lacks factor (factor_means (after_number text) factor e)) in
    scaled_number_none text (rw (← count) a.0) (rw (← count) a.1) none ∙ ap Err (ap suffix_fault (sym own.1) ∙ sym a.3))
    b)
    h.fault_is

no_text : (text : List ℕ) → text ≡ [] → quantity_of text ≡ Err Empty
unfolding quantity_of
no_text text e = rw e refl

minus_text : (text rest : List ℕ) → text ≡ 45 ∷ rest → quantity_of text ≡ Err Negative
unfolding quantity_of
minus_text text rest e = let s : (suc (length rest) == 0) ≡ false = grind (arith, nat_tests) in rw (e, s) refl

other_text : (text : List ℕ) → 0 < length text → slice_index text 0 ≢ 45 → quantity_of text ≡ scaled_number_of
    (after_plus text)
unfolding quantity_of
other_text text some differs =
    let s : (length text == 0) ≡ false = grind (arith, nat_tests) in
    let t : (slice_index text 0 == 45) ≡ false = grind (arith, nat_tests) in
    rw (s, t) refl

quantity_refused : (text : List ℕ) (fault : QuantityFault) → HasQuantityFault text fault → quantity_of text ≡ Err fault
quantity_refused text fault h =
    ⊎_elim (λ (a : (text ≡ []) × (fault ≡ Empty)). no_text text a.0 ∙ ap Err (sym a.1))
    (λ b. ⊎_elim (λ (a : (rest : List ℕ) × (text ≡ 45 ∷ rest) × (fault ≡ Negative)). minus_text text a.0 a.1
    ∙ ap Err (sym a.2))
    (λ (a : (0 < length text) × (slice_index text 0 ≢ 45) × HasNumberFault (after_plus text) fault). other_text text
    a.0 a.1 ∙ number_refused (after_plus text) fault a.2)
    b)
    h

-- a text has one first fault
pub fault_is_one : (text : List ℕ) (one other : QuantityFault) → HasQuantityFault text one
    → HasQuantityFault text other → one ≡ other
fault_is_one text one other h k =
    let a = quantity_refused text one h in
    let b = quantity_refused text other k in
    cc
