use Rattle.std.proofs.Common.{sym, subst}
use Rattle.played_round.specs.state.Playing.{Stands}
use Rattle.played_round.proofs.Whole.{stands_at_first, whole_of}
use Rattle.played_round.proofs.played.play.Goals as goal

pub run-requires : goal.run-requires
run-requires g c =
    subst Stands (sym c.in_ok-round.ensures)
    (stands_at_first c.args.workers c.args.round c.requires.some c.requires.fresh)

pub returns : goal.returns
returns g c =
    whole_of c.args.round c.in_ok-round.round c.run.new.self c.drain.new.self c.args.workers c.args.steps.now
    c.requires.some c.in_ok-round.ensures c.in_ok-run.ensures c.in_ok-drain.ensures
