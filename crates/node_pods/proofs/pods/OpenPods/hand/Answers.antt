use Rattle.node_pods.proofs.Kept.{numbered_below}
use Rattle.node_pods.proofs.pods.OpenPods.hand.Goals as goal

pub invariant_of-self : goal.invariant_of-self
invariant_of-self c =
    let i = c.self.inside in
    let some = c.hand_all.ensures.some in
    numbered_below some.0 i.pieces.items c.args.shown.items c.hand_all.new.pieces.items i.max_restart_delay
    i.has_dedicated_imagefs some.1 c.self.invariant
