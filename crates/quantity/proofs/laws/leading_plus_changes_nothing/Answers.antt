use Rattle.quantity.proofs.QuantityLaws.{plus_added, plus_removed}
use Rattle.quantity.proofs.laws.leading_plus_changes_nothing.Goals as goal

pub returns : goal.returns
returns c = λ text n. (plus_added text n, plus_removed text n)
