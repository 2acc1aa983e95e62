use Rattle.std.proofs.Common.{◌<◌, ◌∷◌, [], length, ap, arith}
use Rattle.round_steps.specs.declared.step.Step.TheVariants.{Update, Enter}
use Rattle.round_core.specs.state.Pool.{worker_at}
use Rattle.played_round.specs.state.Round.{RoundState}
use Rattle.played_round.proofs.Keeping.{deque_len_read}
use Rattle.played_round.proofs.Playing.{plays_then, plays_turn}
use Rattle.played_round.proofs.round.Round.finish.Goals as goal

pub loop-turn-init : goal.loop-turn-init
loop-turn-init g c =
    let entered = c.in_ok-step-2.ensures in
    record {
      played = plays_then c.args.self.now c.step.new.self c.step-2.new.self (Update c.args.w ∷ []) (Enter c.args.w ∷ [])
          c.in_ok-step.ensures entered;
      stands = entered.stands;
    }

pub loop-turn-preserved : goal.loop-turn-preserved
loop-turn-preserved g c =
    let there = ap (λ (round : RoundState). length round.pool.workers) c.self.view_is in
    let in_range : c.args.w < length c.self.inside.workers.items = omega (arith, c.requires.in_range) in
    let read = deque_len_read c.self.inside.workers.items c.args.w c.index.result.now in_range c.index.ensures in
    let same = ap (λ (round : RoundState). length (worker_at round.pool c.args.w).deque) c.self.view_is in
    let deque = (worker_at c.args.self.now.pool c.args.w).deque in
    let within : c.loop-turn._turn < length deque = omega arith in
    let turned = c.in_ok-turn.ensures in
    record {
      played = plays_turn c.args.self.now c.loop-turn.self c.turn.new.self c.args.w deque c.loop-turn._turn within
          c.loop-turn.invariant.played turned;
      stands = turned.stands;
    }
