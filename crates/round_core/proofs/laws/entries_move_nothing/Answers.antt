use Rattle.round_core.proofs.Alike.{alike_after_steps, alike_after_drain}
use Rattle.round_core.proofs.laws.entries_move_nothing.Goals as goal

pub returns : goal.returns
returns c = record { steps = alike_after_steps; drain = alike_after_drain }
