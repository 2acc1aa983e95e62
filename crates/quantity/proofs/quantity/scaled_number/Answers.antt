use Rattle.std.proofs.Common.{◌≡◌, ◌≤◌, ◌<◌, arith, rules, Some, None, sym}
use Rattle.quantity.specs.rule.Number.{after_number}
use Rattle.quantity.specs.rule.Suffix.{factor_of}
use Rattle.quantity.specs.rule.Quantity.{digit_count}
use Rattle.quantity.proofs.Quantities.{scaled_number_none, scaled_number_some}
use Rattle.quantity.proofs.quantity.scaled_number.Goals as goal

pub returns-in_default-clause-value : goal.returns-in_default-clause-value
returns-in_default-clause-value c =
    let some : 0 < digit_count c.args.text.now = rw (← c.at-number.ensures.whole, ← c.at-number.ensures.fraction)
    (omega arith) in
    let few : digit_count c.args.text.now ≤ 17 = rw (← c.at-number.ensures.whole, ← c.at-number.ensures.fraction)
    (omega arith) in
    let none : factor_of (after_number c.args.text.now) ≡ None = rw (← c.at-number.ensures.rest) (search rules) in
    rw (c.fault_of.ensures, c.at-number.ensures.rest) (sym (scaled_number_none c.args.text.now some few none))

pub returns-clause-value : goal.returns-clause-value
returns-clause-value c =
    let some : 0 < digit_count c.args.text.now = rw (← c.at-number.ensures.whole, ← c.at-number.ensures.fraction)
    (omega arith) in
    let few : digit_count c.args.text.now ≤ 17 = rw (← c.at-number.ensures.whole, ← c.at-number.ensures.fraction)
    (omega arith) in
    let is : factor_of (after_number c.args.text.now) ≡ Some c.in-Some.factor = rw (← c.at-number.ensures.rest)
    (search rules) in
    rw (
      c.scaled.ensures.value,
      c.digits_of-value.ensures.value,
      c.at-number.ensures.whole,
      c.at-number.ensures.fraction,
    ) (sym (scaled_number_some c.args.text.now c.in-Some.factor some few is))
