use Rattle.std.proofs.Common.{take}
use Rattle.round_core.specs.state.Pool.{worker_at, finishing_steps}
use Rattle.played_round.specs.state.Playing.{Stands, Plays}
use Rattle.played_round.proofs.round.Round.finish.Given as goal

abbrev pub invariant-loop-turn : goal.invariant-loop-turn
invariant-loop-turn g l = record {
  played : Plays l.fn.self (finishing_steps l.w (take l._turn (worker_at l.fn.self.pool l.w).deque)) l.self;
  stands : Stands l.self;
}
