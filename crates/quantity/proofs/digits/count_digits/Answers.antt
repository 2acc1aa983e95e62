use Rattle.std.proofs.Common.{◌≡◌, sym, arith, length, false, get_or, rules}
use Rattle.std.specs.Char.{is_ascii_digit}
use Rattle.std.proofs.lemmas.List.Sums.{prefix_len_is}
use Rattle.quantity.proofs.digits.count_digits.Goals as goal

pub returns-then-not-is_ascii_digit : goal.returns-then-not-is_ascii_digit
returns-then-not-is_ascii_digit c =
    let stops : is_ascii_digit (get_or c.args.text.now c.loop-i.i 0) ≡ false = search rules in
    sym (prefix_len_is is_ascii_digit c.args.text.now c.loop-i.i 0 (omega arith) c.loop-i.invariant (λ _. stops))

pub returns : goal.returns
returns c = sym (prefix_len_is is_ascii_digit c.args.text.now (length c.args.text.now) 0 (omega arith)
    (λ k lt. c.loop-i.invariant k (omega arith)) (λ lt. absurd (omega arith)))
