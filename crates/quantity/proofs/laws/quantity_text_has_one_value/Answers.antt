use Rattle.quantity.proofs.QuantityMeaning.{thousandths_are_one}
use Rattle.quantity.proofs.laws.quantity_text_has_one_value.Goals as goal

pub returns : goal.returns
returns c = thousandths_are_one
