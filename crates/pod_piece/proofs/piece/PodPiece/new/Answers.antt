use Rattle.std.proofs.Common.{List, [], length, ap, sym, subst, None}
use Rattle.observations.specs.rule.Pods.{PodObs}
use Rattle.pod_state.specs.declared.events.PodEvent.{PodEvent}
use Rattle.pod_piece.specs.declared.made.MadeTick.{MadeTick}
use Rattle.pod_piece.specs.state.Kept.{IsKept, AreKept}
use Rattle.pod_piece.specs.state.Piece.{piece}
use Rattle.pod_piece.proofs.PieceLemmas.{kept_new}
use Rattle.pod_piece.proofs.piece.PodPiece.new.Goals as goal

pub invariant_of-result : goal.invariant_of-result
invariant_of-result c =
    let at = λ (os : List PodObs) (rows : List MadeTick) (es : List PodEvent).
    IsKept (piece c.args.number c.args.pod c.args.max_restart_delay os 0 0 None)
    c.in_ok-differs.differs.items c.in_ok-state.state c.in_ok-status.status rows es in
    let kept =
    kept_new c.args.number c.args.pod c.args.max_restart_delay c.in_ok-differs.differs.items c.in_ok-state.state
    c.in_ok-status.status
    (c.in_ok-differs.ensures c.args.pod (ap length (sym c.as_slice.ensures.same))) c.in_ok-state.ensures.state
    c.in_ok-state.ensures.before c.in_ok-status.ensures in
    let fresh =
    subst (λ (os : List PodObs). at os c.new-3.result.items c.new-4.result.items) (sym c.new-2.ensures)
    (subst (λ (rows : List MadeTick). at [] rows c.new-4.result.items) (sym c.new-3.ensures.items)
    (subst (λ (es : List PodEvent). at [] [] es) (sym c.new-4.ensures.items) kept)) in
    subst AreKept (sym c.in_ok-new.ensures.ok) fresh
