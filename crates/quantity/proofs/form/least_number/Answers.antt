use Rattle.std.proofs.Common.{arith, sym, ◌≤◌, ◌-◌, ◌*◌, ◌^◌}
use Rattle.quantity.proofs.Forms.{has_more_digits, no_few_digits, product_fits, quotient_small}
use Rattle.quantity.proofs.Decimal.{product_le, ten_mono}
use Rattle.quantity.proofs.form.least_number.Goals as goal

pub overflow_mul-numerator-2 : goal.overflow_mul-numerator-2
overflow_mul-numerator-2 c =
    let p : 10 ^ (17 - c.args.places) ≤ 10 ^ 17 = ten_mono (17 - c.args.places) 17 (omega arith) in
    let m : 1000 * c.args.numerator * 10 ^ (17 - c.args.places) ≤ (1000 * 2 ^ 60) * 10 ^ 17 =
    product_le (1000 * c.args.numerator) (10 ^ (17 - c.args.places)) (1000 * 2 ^ 60) (10 ^ 17)
    (omega (arith, c.requires.numerator.1)) p in
    rw c.pow.ensures (omega (arith, m))

pub returns-then-below-numerator-clause-value : goal.returns-then-below-numerator-clause-value
returns-then-below-numerator-clause-value c =
    sym (no_few_digits _ (has_more_digits c.args.thousandths c.args.places c.args.numerator c.requires.numerator.0
    c.requires.places (rw c.pow.ensures at c.if-below-numerator.true)))

pub overflow_mul-number : goal.overflow_mul-number
overflow_mul-number c =
    let f = product_fits (c.args.thousandths - 1) c.args.places c.args.numerator c.requires.numerator.1
    c.requires.places (rw c.pow.ensures at c.if-below-numerator.false) in
    rw c.pow-2.ensures (omega (arith, f))

pub overflow_add-number : goal.overflow_add-number
overflow_add-number c =
    let f = product_fits (c.args.thousandths - 1) c.args.places c.args.numerator c.requires.numerator.1
    c.requires.places (rw c.pow.ensures at c.if-below-numerator.false) in
    let q = quotient_small ((c.args.thousandths - 1) * 10 ^ c.args.places) (1000 * c.args.numerator)
    (omega (arith, c.requires.numerator.0)) f in
    rw c.pow-2.ensures (omega (arith, q))
