use Rattle.std.proofs.Common.{List, sym, subst}
use Rattle.pod_piece.specs.rule.Piece.{Piece}
use Rattle.node_pods.specs.state.Pods.{pods_of, AreNumbered, Awaited, joined}
use Rattle.node_pods.proofs.pods.AwaitedPods.with.Goals as goal

pub invariant_of-result : goal.invariant_of-result
invariant_of-result c =
    let i = c.self.inside in
    subst (λ (ps : List Piece). AreNumbered (pods_of ps i.max_restart_delay i.has_dedicated_imagefs))
    (sym c.in_ok-pieces.ensures)
    (subst (λ (a : Awaited). AreNumbered (joined a c.args.back.items)) (sym c.self.view_is) c.requires)
