use Rattle.round_core.proofs.Rounds.{marks_are_updates}
use Rattle.round_core.proofs.laws.each_mark_is_an_update.Goals as goal

pub returns : goal.returns
returns c = marks_are_updates
