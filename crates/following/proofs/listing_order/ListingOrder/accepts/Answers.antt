use Rattle.std.proofs.Common.{List, length, subst}
use Rattle.std.specs.Prelude.{◌↔◌, IsTrue, Vec}
use Rattle.std.specs.Global.{Global}
use Rattle.state_diff.specs.declared.differ.Differ.{Differ}
use Rattle.following.specs.state.Steps.{PodsAreAccepted}
use Rattle.following.proofs.Accepted.{tells}
use Rattle.following.proofs.listing_order.ListingOrder.accepts.Goals as goal

pub returns : goal.returns
returns c = λ ticks counts followed comes.
    let tick = c.args.tick.now in
    let says = subst
    (λ (ds : List (Vec Differ Global)). (IsTrue c.pods_accept.result ↔ PodsAreAccepted tick ds (length ds)))
    c.deref.ensures.value c.pods_accept.ensures in
    tells ticks tick counts c.args.self.now.differs.items c.pods_accept.result says followed comes
