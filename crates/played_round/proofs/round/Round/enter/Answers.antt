use Rattle.std.proofs.Common.{◌<◌, ◌∙◌, sym, subst, length, arith}
use Rattle.played_round.specs.state.Round.{RoundState}
use Rattle.played_round.specs.state.Playing.{CanEnter}
use Rattle.played_round.proofs.Keeping.{hand_read}
use Rattle.played_round.proofs.round.Round.enter.Goals as goal

pub entry-entry-requires : goal.entry-entry-requires
entry-entry-requires g c =
    let can = subst (λ (round : RoundState). CanEnter round c.args.w) (sym c.self.view_is) c.requires in
    let within : c.args.w < length c.self.inside.workers.items = omega arith in
    let read = hand_read c.self.inside.workers.items c.args.w c.index.result.now within c.index.ensures in
    (can c.in-Updated.number (read ∙ sym c.in-Updated.ensures)).has_entry
