use Rattle.std.proofs.Common.{◌≤◌, ◌^◌, arith}
use Rattle.quantity.proofs.Decimal.{digit_more, ten_mono}
use Rattle.quantity.proofs.digits.decimal.Goals as goal

pub overflow_mul-value : goal.overflow_mul-value
overflow_mul-value c = let few : 10 ^ c.loop-byte.byte-index ≤ 10 ^ 17 = ten_mono _ 17 (omega arith) in omega arith

pub overflow_add-value : goal.overflow_add-value
overflow_add-value c = let few : 10 ^ c.loop-byte.byte-index ≤ 10 ^ 17 = ten_mono _ 17 (omega arith) in omega arith

pub loop-byte-preserved : goal.loop-byte-preserved
loop-byte-preserved c =
    let more = digit_more c.args.digits.now c.loop-byte.byte-index c.loop-byte.value c.requires.digits (omega arith)
    c.loop-byte.invariant.0 c.loop-byte.invariant.1 in rw c.from.ensures more
