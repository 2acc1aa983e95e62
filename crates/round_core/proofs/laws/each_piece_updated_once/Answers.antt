use Rattle.round_core.proofs.Rounds.{finished_was_updated, updated_once}
use Rattle.round_core.proofs.laws.each_piece_updated_once.Goals as goal

pub returns : goal.returns
returns c = record { finished = finished_was_updated; all = updated_once }
