use Rattle.std.proofs.Common.{ap, ◌∙◌, length, arith}
use Rattle.round_core.proofs.Runs.{length-deal}
use Rattle.played_round.specs.state.Round.{RoundState}
use Rattle.played_round.proofs.played.deal.Goals as goal

pub give-requires : goal.give-requires
give-requires g c =
    let long =
    ap (λ (round : RoundState). length round.pool.workers) c.loop-number.invariant
    ∙ length-deal c.args.workers c.loop-number.number in
    omega arith
