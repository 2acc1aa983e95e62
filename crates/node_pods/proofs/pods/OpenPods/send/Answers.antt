use Rattle.node_pods.proofs.Kept.{numbered_as_joined}
use Rattle.node_pods.proofs.pods.OpenPods.send.Goals as goal

pub returns-clause-numbered : goal.returns-clause-numbered
returns-clause-numbered c =
    let i = c.self.inside in
    numbered_as_joined i.pieces.items i.max_restart_delay i.has_dedicated_imagefs c.in_ok-out.out.items
    c.in_ok-out.kept.items c.self.invariant c.in_ok-out.ensures.out c.in_ok-out.ensures.kept
