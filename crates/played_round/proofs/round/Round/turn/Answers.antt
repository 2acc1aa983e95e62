use Rattle.std.proofs.Common.{◌∷◌, []}
use Rattle.round_steps.specs.declared.step.Step.TheVariants.{Pop, Update, Enter}
use Rattle.played_round.proofs.Playing.{plays_then}
use Rattle.played_round.proofs.round.Round.turn.Goals as goal

pub returns : goal.returns
returns g c =
    let w = c.args.w in
    plays_then c.args.self.now c.step-2.new.self c.step-3.new.self (Pop w ∷ Update w ∷ []) (Enter w ∷ [])
    (plays_then c.args.self.now c.step.new.self c.step-2.new.self (Pop w ∷ []) (Update w ∷ []) c.in_ok-step.ensures
    c.in_ok-step-2.ensures)
    c.in_ok-step-3.ensures
