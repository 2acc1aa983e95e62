use Rattle.std.proofs.Common.{◌≤◌, ◌<◌, arith}
use Rattle.std.proofs.Math.Nat.{one-le-pow}
use Rattle.quantity.proofs.Decimal.{product_le}
use Rattle.quantity.proofs.quantity.scaled.Goals as goal

pub rounded_up-requires : goal.rounded_up-requires
rounded_up-requires c =
    let some : 0 < 10 = omega arith in
    let power : 1 ≤ c.pow.result = rw c.pow.ensures (one-le-pow c.args.places 10 some) in
    product_le 1 1 c.pow.result c.args.factor.denominator power c.requires.factor.positive
