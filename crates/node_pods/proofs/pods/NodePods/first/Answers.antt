use Rattle.std.proofs.Common.{◌∙◌, ap}
use Rattle.ranking.specs.state.Index.{Ranks}
use Rattle.node_pods.specs.state.Pods.{Pods, pods_of, ArePlaced}
use Rattle.node_pods.proofs.Candidates.{victim_of_all}
use Rattle.std.proofs.Common.{sym, subst, List}
use Rattle.pod_piece.specs.rule.Piece.{Piece}
use Rattle.node_pods.proofs.pods.NodePods.first.Goals as goal

pub returns : goal.returns
returns c =
    let made = c.new-index.ensures in
    let given = c.in_ok-rank_all.ensures.held made.none in
    victim_of_all c.args.self.now c.deref.result.now c.args.moment c.args.signal c.rank_all.new.index.signal
    c.rank_all.new.index.has_dedicated_imagefs given.0 c.first.result
    (c.deref.ensures.value ∙ ap (λ (p : Pods). p.pieces) c.self.view_is)
    (c.rank_all.ensures.signal ∙ ap (λ (r : Ranks). r.signal) made.value)
    (c.rank_all.ensures.dedicated ∙ ap (λ (r : Ranks). r.has_dedicated_imagefs) made.value
    ∙ ap (λ (p : Pods). p.has_dedicated_imagefs) c.self.view_is)
    given.2 (c.first.ensures given.0 given.1)

pub rank_all-requires-clause-free : goal.rank_all-requires-clause-free
rank_all-requires-clause-free c =
    let i = c.self.inside in
    λ n piece at. (subst (λ (ps : List Piece). ArePlaced (pods_of ps i.max_restart_delay i.has_dedicated_imagefs))
    (sym c.deref.ensures.value) c.self.invariant n piece at).free

pub rank_all-requires-clause-numbered : goal.rank_all-requires-clause-numbered
rank_all-requires-clause-numbered c =
    let i = c.self.inside in
    λ n piece at. (subst (λ (ps : List Piece). ArePlaced (pods_of ps i.max_restart_delay i.has_dedicated_imagefs))
    (sym c.deref.ensures.value) c.self.invariant n piece at).number_is
