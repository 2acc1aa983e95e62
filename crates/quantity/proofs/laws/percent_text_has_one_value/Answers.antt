use Rattle.quantity.proofs.PercentMeaning.{hundredths_are_one}
use Rattle.quantity.proofs.laws.percent_text_has_one_value.Goals as goal

pub returns : goal.returns
returns c = hundredths_are_one
