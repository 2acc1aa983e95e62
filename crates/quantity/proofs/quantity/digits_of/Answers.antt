use Rattle.std.proofs.Common.{◌+◌, arith, length}
use Rattle.quantity.proofs.Decimal.{digits_joined_lt, ten_mono}
use Rattle.quantity.proofs.quantity.digits_of.Goals as goal

pub returns-clause-bound : goal.returns-clause-bound
returns-clause-bound c =
    let few = ten_mono (length c.args.whole.now + length c.args.fraction.now) 17 c.requires.short in
    let joined = digits_joined_lt c.decimal.result c.decimal-2.result (length c.args.whole.now)
    (length c.args.fraction.now) c.decimal.ensures.bound c.decimal-2.ensures.bound in
    rw (c.from.ensures, c.from-2.ensures, c.pow.ensures) (omega (arith, few, joined))
