-- The least number of a form, and the forms that write a quantity.
use Rattle.std.proofs.Common.{◌≡◌, ◌≤◌, ◌<◌, ◌^◌, ◌+◌, ◌-◌, ◌*◌, ◌/◌, ⊎_elim, ℕ, true, false, sym, ◌∙◌, ap, refl}
use Rattle.std.proofs.Common.{arith, Some, None, pow-add}
use Rattle.std.specs.Prelude.{◌==◌, nat_lt}
use Rattle.std.specs.Int.{div_ceil}
use Rattle.std.proofs.lemmas.Bool.{cases_lt}
use Rattle.std.proofs.lemmas.Bool.Decides.{nat_tests}
use Rattle.std.proofs.lemmas.Nat.{le-div, div_below}
use Rattle.std.proofs.Math.Nat.{one-le-pow}
use Rattle.quantity.specs.state.Printed.{few_digits, least_number, exact_number}
use Rattle.quantity.specs.rule.Quantity.{thousandths_of}
use Rattle.quantity.specs.rule.Suffix.{times}
use Rattle.quantity.proofs.Decimal.{product_le}
use Rattle.quantity.proofs.Numbers.{div_ceil_is_least}

pub ten_some : (places : ℕ) → 0 < 10 ^ places
ten_some places = let ten : 0 < 10 = omega arith in one-le-pow places 10 ten

pub ten_split : (places : ℕ) → places ≤ 17 → 10 ^ 17 ≡ 10 ^ (17 - places) * 10 ^ places
ten_split places few =
    let e : (17 - places) + places ≡ 17 = omega (arith, few) in
    let p : 10 ^ ((17 - places) + places) ≡ 10 ^ (17 - places) * 10 ^ places = pow-add 10 (17 - places) places in
    sym (ap (λ k. 10 ^ k) e) ∙ p

-- what is too large for 17 digits
pub has_more_digits : (q places numerator : ℕ) → 0 < numerator → places ≤ 17
    → 1000 * numerator * 10 ^ (17 - places) ≤ q - 1 → 10 ^ 17 ≤ least_number q places numerator
has_more_digits q places numerator some few large =
    let more : (1000 * numerator * 10 ^ (17 - places)) * 10 ^ places ≤ (q - 1) * 10 ^ places =
    product_le (1000 * numerator * 10 ^ (17 - places)) (10 ^ places) (q - 1) (10 ^ places) large (omega arith) in
    let same : (1000 * numerator * 10 ^ (17 - places)) * 10 ^ places ≡ (10 ^ (17 - places) * 10 ^ places) *
    (1000 * numerator) = omega arith in
    let split : 10 ^ 17 * (1000 * numerator) ≡ (10 ^ (17 - places) * 10 ^ places) * (1000 * numerator) =
    ap (λ t. t * (1000 * numerator)) (ten_split places few) in
    let enough : 10 ^ 17 * (1000 * numerator) ≤ (q - 1) * 10 ^ places = omega (arith, split, same, more) in
    let d = le-div (10 ^ 17) ((q - 1) * 10 ^ places) (1000 * numerator) (omega (arith, some)) enough in
    omega (arith, d)

pub no_few_digits : (number : ℕ) → 10 ^ 17 ≤ number → few_digits number ≡ None
no_few_digits number large = let t : nat_lt number (10 ^ 17) ≡ false = grind (arith, nat_tests) in rw t refl

-- what is not stays within the machine's integers
pub product_fits : (below places numerator : ℕ) → numerator ≤ 2 ^ 60 → places ≤ 17
    → below < 1000 * numerator * 10 ^ (17 - places) → below * 10 ^ places < 2 ^ 127
product_fits below places numerator high few small =
    let more : (below + 1) * 10 ^ places ≤ (1000 * numerator * 10 ^ (17 - places)) * 10 ^ places =
    product_le (below + 1) (10 ^ places) (1000 * numerator * 10 ^ (17 - places)) (10 ^ places)
    (omega (arith, small)) (omega arith) in
    let same : (1000 * numerator * 10 ^ (17 - places)) * 10 ^ places ≡ (10 ^ (17 - places) * 10 ^ places) *
    (1000 * numerator) = omega arith in
    let split : 10 ^ 17 * (1000 * numerator) ≡ (10 ^ (17 - places) * 10 ^ places) * (1000 * numerator) =
    ap (λ t. t * (1000 * numerator)) (ten_split places few) in
    let bound : (below + 1) * 10 ^ places ≤ 10 ^ 17 * (1000 * numerator) = omega (arith, split, same, more) in
    let some = ten_some places in
    let parts : (below + 1) * 10 ^ places ≡ below * 10 ^ places + 10 ^ places = omega arith in
    omega (arith, bound, parts, some, high)

-- The least number whose value is not below the quantity.

ceil_some : (places : ℕ) → 0 < 10 ^ places * 1
ceil_some places = let some = ten_some places in omega (arith, some)

-- a value that is not below q is above q - 1, and the other way round
above_before : (a b q : ℕ) → 0 < b → 0 < q → q ≤ div_ceil a b → (q - 1) * b < a
above_before a b q some pos large =
    ⊎_elim (λ (lt : (q - 1) * b < a). lt)
    (λ (le : a ≤ (q - 1) * b).
    let high : div_ceil a b ≤ q - 1 = (div_ceil_is_least a b some).least (q - 1) le in
    absurd (omega (arith, high, pos, large)))
    (cases_lt ((q - 1) * b) a)

not_below_after : (a b q : ℕ) → 0 < b → 0 < q → (q - 1) * b < a → q ≤ div_ceil a b
not_below_after a b q some pos above =
    ⊎_elim (λ (lt : div_ceil a b < q).
    let up : a ≤ div_ceil a b * b = (div_ceil_is_least a b some).not_below in
    let down : div_ceil a b * b ≤ (q - 1) * b = product_le (div_ceil a b) b (q - 1) b (omega (arith, lt))
    (omega arith) in
    absurd (omega (arith, up, down, above)))
    (λ (le : q ≤ div_ceil a b). le)
    (cases_lt (div_ceil a b) q)

ceil_grows : (a c b : ℕ) → 0 < b → a ≤ c → div_ceil a b ≤ div_ceil c b
ceil_grows a c b some le =
    let up : c ≤ div_ceil c b * b = (div_ceil_is_least c b some).not_below in
    (div_ceil_is_least a b some).least (div_ceil c b) (omega (arith, up, le))

below_next : (x y : ℕ) → 0 < y → x < (x / y + 1) * y
below_next x y some =
    ⊎_elim (λ (lt : x < (x / y + 1) * y). lt)
    (λ (le : (x / y + 1) * y ≤ x).
    let d = le-div (x / y + 1) x y some le in
    absurd (omega (arith, d)))
    (cases_lt x ((x / y + 1) * y))

-- a number that writes the quantity: the least one writes it as well, and is no larger
least_writes : (q places numerator number : ℕ) → 0 < q → 0 < numerator
    → thousandths_of number places (times numerator) ≡ q → (least_number q places numerator ≤ number)
    × (thousandths_of (least_number q places numerator) places (times numerator) ≡ q)
least_writes q places numerator number pos some value =
    let one : 0 < 10 ^ places * 1 = ceil_some places in
    let scale : 0 < 1000 * numerator = omega (arith, some) in
    let reach : q ≤ div_ceil (1000 * number * numerator) (10 ^ places * 1) = omega (arith, value) in
    let above : (q - 1) * (10 ^ places * 1) < 1000 * number * numerator = above_before (1000 * number * numerator)
    (10 ^ places * 1) q one pos reach in
    let turned : (q - 1) * 10 ^ places < number * (1000 * numerator) = omega (arith, above) in
    let few : (q - 1) * 10 ^ places / (1000 * numerator) < number = div_below ((q - 1) * 10 ^ places)
    (1000 * numerator) number scale turned in
    let small : least_number q places numerator ≤ number = omega (arith, few) in
    let next : (q - 1) * 10 ^ places < least_number q places numerator * (1000 * numerator) =
    below_next ((q - 1) * 10 ^ places) (1000 * numerator) scale in
    let over : (q - 1) * (10 ^ places * 1) < 1000 * least_number q places numerator * numerator = omega (arith, next) in
    let low : q ≤ div_ceil (1000 * least_number q places numerator * numerator) (10 ^ places * 1) =
    not_below_after (1000 * least_number q places numerator * numerator) (10 ^ places * 1) q one pos over in
    let products : least_number q places numerator * (1000 * numerator) ≤ number * (1000 * numerator) =
    product_le (least_number q places numerator) (1000 * numerator) number (1000 * numerator) small (omega arith) in
    let high : div_ceil (1000 * least_number q places numerator * numerator) (10 ^ places * 1) ≤ div_ceil
    (1000 * number * numerator) (10 ^ places * 1) =
    ceil_grows (1000 * least_number q places numerator * numerator) (1000 * number * numerator) (10 ^ places * 1)
    one (omega (arith, products)) in
    (small, omega (arith, low, high, value))

pub exact_number_found : (q places numerator number : ℕ) → 0 < q → 0 < numerator → number < 10 ^ 17
    → thousandths_of number places (times numerator) ≡ q → exact_number q places numerator ≡ Some
    (least_number q places numerator)
exact_number_found q places numerator number pos some few value =
    let w = least_writes q places numerator number pos some value in
    let small : nat_lt (least_number q places numerator) (10 ^ 17) ≡ true = (let le = w.0 in grind (arith, nat_tests))
    in
    let same : (thousandths_of (least_number q places numerator) places (times numerator) == q) ≡ true =
    (let e = w.1 in rw e (grind (arith, nat_tests))) in
    rw (small, same) refl

pub quotient_small : (x y : ℕ) → 0 < y → x < 2 ^ 127 → x / y < 2 ^ 127
quotient_small x y some small =
    let room : 2 ^ 127 * 1 ≤ 2 ^ 127 * y = product_le (2 ^ 127) 1 (2 ^ 127) y (omega arith) some in
    div_below x y (2 ^ 127) some (omega (arith, room, small))
