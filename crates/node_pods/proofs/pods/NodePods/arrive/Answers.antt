use Rattle.std.proofs.Common.{◌≡◌, ◌∙◌, ◌++◌, ◌∷◌, [], ℕ, List, length, ap, sym, subst, arith}
use Rattle.pod_piece.specs.rule.Piece.{Piece}
use Rattle.pod_piece.specs.state.Piece.{new_piece}
use Rattle.node_pods.specs.state.Pods.{pods_of, ArePlaced}
use Rattle.node_pods.proofs.Kept.{placed_arrived}
use Rattle.node_pods.proofs.pods.NodePods.arrive.Goals as goal

pub invariant_of-self-2 : goal.invariant_of-self-2
invariant_of-self-2 c =
    let i = c.self.inside in
    let same = c.try_reserve.ensures.items in
    let long : c.len.result ≡ length i.pieces.items =
    omega (arith, c.len.ensures, c.try_reserve.new.self.ok, ap length same) in
    let piece : c.in_ok-piece.piece ≡ new_piece (length i.pieces.items) c.args.pod i.max_restart_delay =
    c.in_ok-piece.ensures ∙ ap (λ (n : ℕ). new_piece n c.args.pod i.max_restart_delay) long in
    let all : c.push_reserved.new.self.items
    ≡ i.pieces.items ++ new_piece (length i.pieces.items) c.args.pod i.max_restart_delay ∷ [] =
    c.push_reserved.ensures.items ∙ ap (λ (ps : List Piece). ps ++ c.in_ok-piece.piece ∷ []) same
    ∙ ap (λ (p : Piece). i.pieces.items ++ p ∷ []) piece in
    subst (λ (ps : List Piece). ArePlaced (pods_of ps i.max_restart_delay i.has_dedicated_imagefs)) (sym all)
    (placed_arrived i.pieces.items i.max_restart_delay i.has_dedicated_imagefs c.args.pod c.self.invariant)

pub invariant_of-self : goal.invariant_of-self
invariant_of-self c =
    let i = c.self.inside in
    subst (λ (ps : List Piece). ArePlaced (pods_of ps i.max_restart_delay i.has_dedicated_imagefs))
    (sym c.try_reserve.ensures.items) c.self.invariant

pub invariant_of-self-in_err-piece : goal.invariant_of-self-in_err-piece
invariant_of-self-in_err-piece c =
    let i = c.self.inside in
    subst (λ (ps : List Piece). ArePlaced (pods_of ps i.max_restart_delay i.has_dedicated_imagefs))
    (sym c.try_reserve.ensures.items) c.self.invariant
