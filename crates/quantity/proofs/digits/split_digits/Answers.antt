use Rattle.std.specs.Char.{is_ascii_digit}
use Rattle.std.proofs.lemmas.List.Sums.{prefix_len-le-length}
use Rattle.quantity.proofs.Decimal.{leading_are_digits}
use Rattle.quantity.proofs.digits.split_digits.Goals as goal

pub split_at-requires : goal.split_at-requires
split_at-requires c = rw c.count_digits.ensures (prefix_len-le-length is_ascii_digit c.args.text.now)

pub returns-clause-all_digits : goal.returns-clause-all_digits
returns-clause-all_digits c = rw (c.split_at.ensures.front, c.count_digits.ensures) (leading_are_digits c.args.text.now)
