use Rattle.std.proofs.Common.{subst}
use Rattle.node_pods.specs.state.Pods.{Pods, ArePlaced}
use Rattle.node_pods.proofs.pods.NodePods.pieces.Goals as goal

pub returns-clause-placed : goal.returns-clause-placed
returns-clause-placed c = subst (λ (p : Pods). ArePlaced p) c.self.view_is c.self.invariant
