use Rattle.std.proofs.Common.{◌<◌, ◌∙◌, sym, subst, length, arith}
use Rattle.played_round.specs.state.Round.{RoundState}
use Rattle.played_round.specs.state.Playing.{CanUpdate}
use Rattle.played_round.proofs.Keeping.{hand_read}
use Rattle.played_round.proofs.round.Round.update.Goals as goal

pub update-requires : goal.update-requires
update-requires g c =
    let can = subst (λ (round : RoundState). CanUpdate round c.args.w) (sym c.self.view_is) c.requires in
    let within : c.args.w < length c.self.inside.workers.items = omega arith in
    let read = hand_read c.self.inside.workers.items c.args.w c.index.result.now within c.index.ensures in
    can c.in-Taken.number (read ∙ sym c.in-Taken.ensures)
