use Rattle.std.proofs.Common.{sym, subst}
use Rattle.node_pods.specs.state.Pods.{Pods, IsEvictable}
use Rattle.node_pods.proofs.Kept.{placed_evicted}
use Rattle.node_pods.proofs.pods.NodePods.evict.Goals as goal

pub invariant_of-self : goal.invariant_of-self
invariant_of-self c =
    let i = c.self.inside in
    placed_evicted i.pieces.items i.max_restart_delay i.has_dedicated_imagefs c.args.number c.args.order
    c.evict_at.new.pieces.items c.self.invariant c.evict_at.ensures

pub evict_at-requires-clause-evictable : goal.evict_at-requires-clause-evictable
evict_at-requires-clause-evictable c =
    subst (λ (p : Pods). IsEvictable p.pieces c.args.number c.args.order.at) (sym c.self.view_is) c.requires

pub evict_at-requires-clause-free : goal.evict_at-requires-clause-free
evict_at-requires-clause-free c = λ n piece at. (c.self.invariant n piece at).free
