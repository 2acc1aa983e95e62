use Rattle.round_steps.specs.declared.step.Step.TheVariants.{Pop}
use Rattle.played_round.proofs.Playing.{plays_none, plays_more}
use Rattle.played_round.proofs.round.Round.run.Goals as goal

pub loop-next-init : goal.loop-next-init
loop-next-init g c = record { played = plays_none c.args.self.now c.requires; stands = c.requires }

pub loop-next-preserved : goal.loop-next-preserved
loop-next-preserved g c =
    let stepped = c.in_ok-step.ensures in
    record {
      played =
          plays_more c.args.self.now c.loop-next.self c.step.new.self c.args.steps.now c.loop-next.next-index (Pop 0)
          c.loop-next-test.true c.loop-next.invariant.played stepped;
      stands = stepped.stands;
    }
