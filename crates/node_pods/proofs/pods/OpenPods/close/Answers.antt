use Rattle.std.proofs.Common.{List, sym, subst}
use Rattle.pod_piece.specs.rule.Piece.{Piece}
use Rattle.node_pods.specs.state.Pods.{Pods, pods_of, ArePlaced}
use Rattle.node_pods.specs.state.Steps.{AreFree}
use Rattle.node_pods.proofs.Kept.{placed_at_rest}
use Rattle.node_pods.proofs.pods.OpenPods.close.Goals as goal

pub invariant_of-result : goal.invariant_of-result
invariant_of-result c =
    let i = c.self.inside in
    let free = subst (λ (p : Pods). AreFree p.pieces) (sym c.self.view_is) c.requires in
    subst (λ (ps : List Piece). ArePlaced (pods_of ps i.max_restart_delay i.has_dedicated_imagefs))
    (sym c.rest_all.ensures) (placed_at_rest i.pieces.items i.max_restart_delay i.has_dedicated_imagefs
    c.self.invariant free)
