use Rattle.std.proofs.Common.{refl}
use Rattle.round_steps.specs.declared.step.Step.TheVariants.{Pop, Steal, Enter}
use Rattle.played_round.proofs.Keeping.{can_update, can_enter, plays_after, plays_hand_after}
use Rattle.played_round.proofs.round.Round.step.Goals as goal

pub update-requires : goal.update-requires
update-requires g c = can_update c.args.self.now c.requires c.in-Update.w

pub enter-requires : goal.enter-requires
enter-requires g c = can_enter c.args.self.now c.requires c.in-Enter.w

pub returns-in-Pop : goal.returns-in-Pop
returns-in-Pop g c =
    plays_after c.args.self.now c.args.next (Pop c.in-Pop.w) c.in-Pop.is c.requires refl c.pop.new.self c.pop.ensures

pub returns-in-Steal : goal.returns-in-Steal
returns-in-Steal g c =
    plays_after c.args.self.now c.args.next (Steal c.in-Steal.thief c.in-Steal.owner) c.in-Steal.is c.requires refl
    c.steal.new.self c.steal.ensures

pub returns-in_ok-update-in-Update : goal.returns-in_ok-update-in-Update
returns-in_ok-update-in-Update g c =
    plays_hand_after c.args.self.now c.args.next c.in-Update.w c.in-Update.is c.requires c.update.new.self
    c.in_ok-update-in-Update.ensures.table c.in_ok-update-in-Update.ensures.pool

pub returns-in_ok-enter-in-Enter : goal.returns-in_ok-enter-in-Enter
returns-in_ok-enter-in-Enter g c =
    plays_after c.args.self.now c.args.next (Enter c.in-Enter.w) c.in-Enter.is c.requires refl c.enter.new.self
    c.in_ok-enter-in-Enter.ensures
