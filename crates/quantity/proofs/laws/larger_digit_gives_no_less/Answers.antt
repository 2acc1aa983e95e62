use Rattle.quantity.proofs.QuantityLaws.{larger_digit}
use Rattle.quantity.proofs.laws.larger_digit_gives_no_less.Goals as goal

pub returns : goal.returns
returns c = larger_digit
