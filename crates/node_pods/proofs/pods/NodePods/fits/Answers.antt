use Rattle.std.proofs.Common.{◌≡◌, ◌∙◌, length, ap, arith}
use Rattle.node_pods.specs.state.Pods.{Pods, pods_of, ArePlaced}
use Rattle.node_pods.proofs.Steps.{fits_by}
use Rattle.std.proofs.Common.{sym, subst, List}
use Rattle.pod_piece.specs.rule.Piece.{Piece}
use Rattle.node_pods.proofs.pods.NodePods.fits.Goals as goal

pub returns-then-shown-len : goal.returns-then-shown-len
returns-then-shown-len c =
    let items = c.self.inside.pieces in
    let pieces = c.deref.result.now in
    let shown = c.as_slice-shown.result.now in
    let long : length shown ≡ length pieces =
    omega (arith, c.if-shown-len.true, c.len.ensures, items.ok, ap length c.deref.ensures.value) in
    fits_by c.args.self.now c.args.tick.now pieces shown c.are_next.result
    (c.deref.ensures.value ∙ ap (λ (p : Pods). p.pieces) c.self.view_is) c.as_slice-shown.ensures long
    c.are_next.ensures

pub are_next-requires-clause-free : goal.are_next-requires-clause-free
are_next-requires-clause-free c =
    let i = c.self.inside in
    λ n piece at. (subst (λ (ps : List Piece). ArePlaced (pods_of ps i.max_restart_delay i.has_dedicated_imagefs))
    (sym c.deref.ensures.value) c.self.invariant n piece at).free
