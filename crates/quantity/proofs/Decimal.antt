-- The number that digits write, digit by digit.
use Rattle.std.proofs.Common.{◌≡◌, ◌≤◌, ◌<◌, ◌^◌, ◌+◌, ◌-◌, ◌*◌, ℕ, suc, true, List, length, take, get_or, arith}
use Rattle.std.proofs.Common.{pow-add}
use Rattle.std.specs.Char.{is_ascii_digit, digit_value}
use Rattle.std.specs.Str.Parse.{digits_value}
use Rattle.std.proofs.lemmas.Int.Digits.{digits_value_more}
use Rattle.std.proofs.lemmas.Bool.Decides.{nat_tests}
use Rattle.std.proofs.Math.Nat.{pow-suc, pow-le-pow_right, mul-le-mul}
use Rattle.std.specs.List.{prefix_len}
use Rattle.std.proofs.lemmas.List.{length-take, length-take-le, get_or-take}
use Rattle.std.proofs.lemmas.List.Sums.{prefix_len_passes, prefix_len-le-length}
use Rattle.quantity.specs.rule.Digits.{leading_digits}
use Rattle.quantity.specs.state.Digits.{AllDigits}

-- the value of a digit's byte
pub digit_value_is : (c : ℕ) → is_ascii_digit c ≡ true → (digit_value c ≡ c - 48) × (48 ≤ c) × (c ≤ 57)
digit_value_is c h = grind (arith, nat_tests)

-- one power of ten more
pub ten_times : (k : ℕ) → 10 ^ (k + 1) ≡ 10 ^ k * 10
ten_times k = let e : k + 1 ≡ suc k = omega arith in rw e (pow-suc 10 k)

pub ten_mono : (j k : ℕ) → j ≤ k → 10 ^ j ≤ 10 ^ k
ten_mono j k h = let some : 0 < 10 = omega arith in pow-le-pow_right some h

-- a digit more: its value, and how large it can be
pub digit_more : (digits : List ℕ) (i value : ℕ) → AllDigits digits → i < length digits
    → value ≡ digits_value 10 (take i digits) → value < 10 ^ i
    → (value * 10 + (get_or digits i 0 - 48) ≡ digits_value 10 (take (i + 1) digits))
    × (value * 10 + (get_or digits i 0 - 48) < 10 ^ (i + 1))
digit_more digits i value all lt is small =
    let here = digit_value_is (get_or digits i 0) (all i 0 lt) in
    let one : digit_value (get_or digits i 0) ≡ get_or digits i 0 - 48 = here.0 in
    let more : digits_value 10 (take (i + 1) digits) ≡ digits_value 10 (take i digits) * 10 + digit_value
    (get_or digits i 0) = digits_value_more 10 digits i lt in
    let high : get_or digits i 0 ≤ 57 = here.2 in
    let e : 10 ^ (i + 1) ≡ 10 ^ i * 10 = ten_times i in
    (rw (more, one, ← is), rw e (omega arith))

-- the digits that a text begins with are digits
pub leading_are_digits : (text : List ℕ) → AllDigits (leading_digits text)
leading_are_digits text k d lt =
    let all : k < prefix_len is_ascii_digit text = omega (arith, length-take (prefix_len is_ascii_digit text) text) in
    rw (get_or-take (prefix_len is_ascii_digit text) text k d all) (prefix_len_passes is_ascii_digit text k d all)

pub length_leading : (text : List ℕ) → length (leading_digits text) ≡ prefix_len is_ascii_digit text
length_leading text = length-take-le _ text (prefix_len-le-length is_ascii_digit text)

-- a product of what is not larger
pub product_le : (a b m n : ℕ) → a ≤ m → b ≤ n → a * b ≤ m * n
product_le a b m n low high = mul-le-mul low high

-- digits before and after a point, written as one number
pub digits_joined_lt : (a b m n : ℕ) → a < 10 ^ m → b < 10 ^ n → a * 10 ^ n + b < 10 ^ (m + n)
digits_joined_lt a b m n low high =
    let more : (a + 1) * 10 ^ n ≤ 10 ^ m * 10 ^ n = product_le (a + 1) (10 ^ n) (10 ^ m) (10 ^ n) (omega arith)
    (omega arith) in
    let e : (a + 1) * 10 ^ n ≡ a * 10 ^ n + 10 ^ n = omega arith in
    let p : 10 ^ (m + n) ≡ 10 ^ m * 10 ^ n = pow-add 10 m n in
    omega arith
