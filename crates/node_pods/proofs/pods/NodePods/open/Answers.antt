use Rattle.node_pods.proofs.Kept.{numbered_of}
use Rattle.node_pods.proofs.pods.NodePods.open.Goals as goal

pub invariant_of-result : goal.invariant_of-result
invariant_of-result c =
    let i = c.self.inside in
    numbered_of i.pieces.items i.max_restart_delay i.has_dedicated_imagefs c.self.invariant
