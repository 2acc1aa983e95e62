use Rattle.std.proofs.Common.{◌≡◌, ◌∙◌, ◌+◌, List, map, ap, sym, subst, arith}
use Rattle.observations.specs.rule.Pods.{PodObs}
use Rattle.pod_state.specs.rule.Pods.{pod_tick}
use Rattle.pod_piece.specs.state.Kept.{IsKept, AreKept, piece_of}
use Rattle.pod_piece.specs.state.Listings.{IsNextTick}
use Rattle.pod_piece.specs.rule.Piece.{Piece}
use Rattle.pod_piece.specs.state.Piece.{piece, with_tick, begun_with}
use Rattle.pod_piece.proofs.Waiting.{few_ticks}
use Rattle.pod_piece.proofs.PieceLemmas.{kept_handed, piece_handed}
use Rattle.pod_piece.proofs.piece.PodPiece.hand.Goals as goal

pub overflow_add-parts : goal.overflow_add-parts
overflow_add-parts c =
    let i = c.deref_mut-parts.result.now in
    let held : AreKept i = subst AreKept (sym c.deref_mut-parts.ensures.value) c.self.invariant in
    let few = few_ticks (map pod_tick i.history) held.spread in
    omega (arith, held.within, few)

pub invariant_of-self-2 : goal.invariant_of-self-2
invariant_of-self-2 c =
    let i = c.deref_mut-parts.result.now in
    let view : piece_of i ≡ c.args.self.now = ap piece_of c.deref_mut-parts.ensures.value ∙ c.self.view_is in
    let held : AreKept i = subst AreKept (sym c.deref_mut-parts.ensures.value) c.self.invariant in
    let obs = c.args.observed in
    let next = subst (λ (p : Piece). IsNextTick p.pod p.handed (pod_tick obs)) (sym view) c.requires in
    let kept = kept_handed (piece_of i) (pod_tick obs) i.differs.items i.state i.status i.earlier.items
    c.begin_round-parts.new.earlier.items i.events.items next c.begin_round-parts.ensures.none
    c.begin_round-parts.ensures.same held in
    subst (λ (os : List PodObs). IsKept
    (piece i.number i.pod i.max_restart_delay os (i.waiting + 1) c.begin_round-parts.result i.eviction)
    i.differs.items i.state i.status c.begin_round-parts.new.earlier.items i.events.items) (sym c.in_ok-push.ensures.ok)
    (subst (λ (p : Piece). IsKept p i.differs.items i.state i.status c.begin_round-parts.new.earlier.items
    i.events.items)
    (sym (piece_handed i.number i.pod i.max_restart_delay i.history i.waiting i.begun c.begin_round-parts.result
    i.eviction
    obs (c.begin_round-parts.ensures.begun ∙ ap (λ n. begun_with i.waiting n i.begun) c.len-handed.ensures))) kept)

pub returns-clause-ok : goal.returns-clause-ok
returns-clause-ok c =
    let i = c.deref_mut-parts.result.now in
    let view : piece_of i ≡ c.args.self.now = ap piece_of c.deref_mut-parts.ensures.value ∙ c.self.view_is in
    let obs = c.args.observed in
    ap (λ (os : List PodObs). piece i.number i.pod i.max_restart_delay os (i.waiting + 1) c.begin_round-parts.result
    i.eviction) c.in_ok-push.ensures.ok
    ∙ piece_handed i.number i.pod i.max_restart_delay i.history i.waiting i.begun c.begin_round-parts.result i.eviction
    obs (c.begin_round-parts.ensures.begun ∙ ap (λ n. begun_with i.waiting n i.begun) c.len-handed.ensures)
    ∙ ap (λ (p : Piece). with_tick p (pod_tick obs)) view
