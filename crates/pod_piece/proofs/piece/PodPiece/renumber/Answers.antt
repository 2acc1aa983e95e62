use Rattle.std.proofs.Common.{◌≡◌, ◌∙◌, ap, sym, subst}
use Rattle.pod_piece.specs.state.Piece.{piece}
use Rattle.pod_piece.proofs.PieceLemmas.{kept_numbered}
use Rattle.pod_piece.specs.state.Kept.{AreKept, piece_of}
use Rattle.pod_piece.proofs.piece.PodPiece.renumber.Goals as goal

pub invariant_of-self : goal.invariant_of-self
invariant_of-self c =
    let i = c.deref_mut-parts.result.now in
    let view : piece_of i ≡ c.args.self.now = ap piece_of c.deref_mut-parts.ensures.value ∙ c.self.view_is in
    let held : AreKept i = subst AreKept (sym c.deref_mut-parts.ensures.value) c.self.invariant in
    kept_numbered
    (piece i.number i.pod i.max_restart_delay i.history i.waiting i.begun i.eviction) c.args.number i.differs.items
    i.state i.status i.earlier.items i.events.items held
