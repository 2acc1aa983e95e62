use Rattle.std.proofs.Common.{◌≤◌, ◌^◌, ◌*◌, arith, length}
use Rattle.quantity.proofs.Decimal.{leading_are_digits, ten_mono, product_le}
use Rattle.quantity.proofs.duration.part_seconds.Goals as goal

pub decimal-requires-clause-digits : goal.decimal-requires-clause-digits
decimal-requires-clause-digits c = rw (c.split_at.ensures.front, c.requires) (leading_are_digits c.args.text.now)

pub overflow_mul-result : goal.overflow_mul-result
overflow_mul-result c =
    let few : length c.split_at.result.0.now ≤ 12 = omega (arith, c.split_at.ensures.front_len) in
    let most = ten_mono (length c.split_at.result.0.now) 12 few in
    let unit : c.in-Some.unit ≤ 3600 = c.in-Some.ensures.bound in
    let product : c.decimal.result * c.in-Some.unit ≤ 10 ^ 12 * 3600 = product_le c.decimal.result c.in-Some.unit
    (10 ^ 12) 3600 (omega (arith, c.decimal.ensures.bound, most)) unit in
    omega (arith, product)

pub returns-clause-bound : goal.returns-clause-bound
returns-clause-bound c =
    let few : length c.split_at.result.0.now ≤ 12 = omega (arith, c.split_at.ensures.front_len) in
    let most = ten_mono (length c.split_at.result.0.now) 12 few in
    let unit : c.in-Some.unit ≤ 3600 = c.in-Some.ensures.bound in
    product_le c.decimal.result c.in-Some.unit (10 ^ 12) 3600 (omega (arith, c.decimal.ensures.bound, most)) unit
