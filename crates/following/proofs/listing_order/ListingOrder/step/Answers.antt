use Rattle.following.proofs.Accepted.{all_follow}
use Rattle.following.proofs.Followed.{tick_more}
use Rattle.following.proofs.listing_order.ListingOrder.step.Goals as goal

pub step_pods-requires : goal.step_pods-requires
step_pods-requires c =
    let may = c.requires in
    all_follow may.ticks c.args.tick.now may.counts c.args.self.now.differs.items may.followed
    may.comes_next may.forwards

pub returns : goal.returns
returns c = λ ticks counts followed comes.
    tick_more ticks c.args.tick.now counts c.args.self.now.differs.items c.step_pods.new.differs.items comes followed
    c.step_pods.ensures
