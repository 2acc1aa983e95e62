use Rattle.std.proofs.Common.{take}
use Rattle.round_core.specs.state.Pool.{drain_steps}
use Rattle.played_round.specs.state.Playing.{Stands, Plays}
use Rattle.played_round.proofs.round.Round.drain.Given as goal

abbrev pub invariant-loop-w : goal.invariant-loop-w
invariant-loop-w g l = record {
  played : Plays l.fn.self (drain_steps 0 (take l.w l.fn.self.pool.workers)) l.self;
  stands : Stands l.self;
}
