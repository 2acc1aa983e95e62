use Rattle.std.proofs.Common.{◌≡◌, ◌∙◌, List, length, map, ap, sym, subst, arith}
use Rattle.std.specs.Prelude.{◌↔◌, IsTrue}
use Rattle.state_diff.specs.declared.differ.Differ.{Differ}
use Rattle.pod_state.specs.rule.Pods.{PodTick, pod_tick}
use Rattle.pod_piece.specs.state.Kept.{AreKept, piece_of}
use Rattle.pod_piece.specs.state.Listings.{MayComeNext, AreListedOnceEnded}
use Rattle.pod_piece.specs.rule.Piece.{Piece, place_of}
use Rattle.pod_piece.proofs.PieceLemmas.{state_free, may_self}
use Rattle.pod_piece.proofs.Waiting.{ticks_free}
use Rattle.pod_piece.proofs.piece.PodPiece.accepts.Goals as goal

pub returns-then-container_count-as_slice : goal.returns-then-container_count-as_slice
returns-then-container_count-as_slice c =
    let i = c.deref-parts.result.now in
    let view : piece_of i ≡ c.args.self.now = ap piece_of c.deref-parts.ensures ∙ c.self.view_is in
    let held : AreKept i = subst AreKept (sym c.deref-parts.ensures) c.self.invariant in
    let h = map pod_tick i.history in
    let shown = c.args.observed.now.containers in
    let free : i.waiting ≡ 0 = ap (λ (p : Piece). p.waiting) view ∙ c.requires in
    let e = place_of i.eviction in
    let listed : AreListedOnceEnded i.pod e h c.deref.result.now =
    subst (λ (ds : List Differ). AreListedOnceEnded i.pod e h ds) (sym c.deref.ensures.value)
    (subst (λ (k : List PodTick). AreListedOnceEnded i.pod e k i.differs.items) (ticks_free (piece_of i) free)
    held.listed) in
    let after = state_free (piece_of i) i.differs.items i.state i.status i.earlier.items i.events.items free held in
    let is = c.may_come.ensures i.pod i.max_restart_delay e h (after.now e (may_self e (length h))) listed in
    let long : length shown ≡ length i.pod.containers =
    omega (
      arith,
      c.if-container_count-as_slice.true,
      c.container_count.ensures,
      ap length
          c.as_slice.ensures.same,
    ) in
    let both : IsTrue c.may_come.result ↔ MayComeNext i.pod h shown =
    ((λ t. record { as_many = long; acceptable = is.0 t }), (λ may. is.1 may.acceptable)) in
    subst (λ (p : Piece). IsTrue c.may_come.result ↔ MayComeNext p.pod p.handed shown) view both
