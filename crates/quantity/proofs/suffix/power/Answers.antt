use Rattle.std.proofs.Common.{◌≤◌, ◌<◌, arith}
use Rattle.std.proofs.Math.Nat.{one-le-pow}
use Rattle.quantity.proofs.Decimal.{ten_mono}
use Rattle.quantity.proofs.suffix.power.Goals as goal

pub returns-clause-bounds : goal.returns-clause-bounds
returns-clause-bounds c =
    let some : 0 < 10 = omega arith in
    let few : c.decimal-exponent.result ≤ 18 = omega arith in
    rw c.pow.ensures (one-le-pow c.decimal-exponent.result 10 some, ten_mono c.decimal-exponent.result 18 few)
