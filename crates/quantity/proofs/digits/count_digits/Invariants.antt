use Rattle.std.proofs.Common.{◌≡◌, ℕ, ◌<◌, get_or, true}
use Rattle.std.specs.Char.{is_ascii_digit}
use Rattle.quantity.proofs.digits.count_digits.Given as goal

abbrev pub invariant-loop-i : goal.invariant-loop-i
invariant-loop-i l = (k : ℕ) → k < l.i → is_ascii_digit (get_or l.text k 0) ≡ true
