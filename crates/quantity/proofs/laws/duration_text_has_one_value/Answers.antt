use Rattle.quantity.proofs.DurationMeaning.{seconds_are_one}
use Rattle.quantity.proofs.laws.duration_text_has_one_value.Goals as goal

pub returns : goal.returns
returns c = seconds_are_one
