use Rattle.std.proofs.Common.{◌<◌, length, ap, arith}
use Rattle.played_round.specs.state.Round.{RoundState}
use Rattle.played_round.proofs.Playing.{as_many_workers, plays_worker}
use Rattle.played_round.proofs.round.Round.drain.Goals as goal

pub finish-requires-clause-in_range : goal.finish-requires-clause-in_range
finish-requires-clause-in_range g c =
    let there = ap (λ (round : RoundState). length round.pool.workers) c.self.view_is in
    let within : c.loop-w.w < length c.args.self.now.pool.workers = omega arith in
    let same = as_many_workers c.args.self.now c.loop-w.self c.loop-w.w within c.loop-w.invariant.played in
    omega arith

pub loop-w-preserved : goal.loop-w-preserved
loop-w-preserved g c =
    let there = ap (λ (round : RoundState). length round.pool.workers) c.self.view_is in
    let within : c.loop-w.w < length c.args.self.now.pool.workers = omega arith in
    let finished = c.in_ok-finish.ensures in
    record {
      played = plays_worker c.args.self.now c.loop-w.self c.loop-w.w within c.loop-w.invariant.played c.finish.new.self
          finished;
      stands = finished.stands;
    }
