use Rattle.std.proofs.Common.{◌++◌, ◌∷◌, [], sym, subst}
use Rattle.following.specs.state.Followed.{AreFollowed}
use Rattle.following.proofs.Followed.{pod_more}
use Rattle.following.proofs.listing_order.ListingOrder.with_pod.Goals as goal

pub returns : goal.returns
returns c = λ ticks counts followed.
    subst (AreFollowed ticks (counts ++ c.args.containers ∷ [])) (sym c.in_ok-push.ensures.items)
    (pod_more ticks counts c.args.self.differs.items c.args.containers c.in_ok-new.new followed c.in_ok-new.ensures)
