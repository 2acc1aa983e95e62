use Rattle.std.proofs.Common.{take}
use Rattle.played_round.specs.state.Playing.{Stands, Plays}
use Rattle.played_round.proofs.round.Round.run.Given as goal

abbrev pub invariant-loop-next : goal.invariant-loop-next
invariant-loop-next g l = record {
  played : Plays l.fn.self (take l.next-index l.steps) l.self;
  stands : Stands l.self;
}
