use Rattle.std.proofs.Common.{Option, sym, subst}
use Rattle.std.specs.Prelude.{slice_set}
use Rattle.observations.specs.rule.Pods.{PodObs}
use Rattle.pod_state.specs.rule.Pods.{pod_tick}
use Rattle.pod_piece.specs.state.Piece.{with_tick}
use Rattle.node_pods.specs.state.Pods.{handed_one}
use Rattle.node_pods.specs.state.Steps.{MayTake, IsChangedAt}
use Rattle.node_pods.proofs.Candidates.{read_by_place}
use Rattle.node_pods.proofs.Steps.{set_changed}
use Rattle.node_pods.proofs.each.hand_at.Goals as goal

pub hand-requires : goal.hand-requires
hand-requires c =
    let piece = c.index_mut.result.now in
    subst (λ (o : Option PodObs). MayTake piece o) c.in-Some.is
    (c.requires.next piece (read_by_place c.args.pieces.now.items c.args.number piece c.requires.within
    c.index_mut.ensures.value))

pub returns-in_ok-hand-clause-ok : goal.returns-in_ok-hand-clause-ok
returns-in_ok-hand-clause-ok c =
    let items = c.args.pieces.now.items in
    let piece = c.index_mut.result.now in
    subst (λ (o : Option PodObs). IsChangedAt (λ p. handed_one p o) c.args.number items
    (slice_set items c.args.number c.hand.new.self)) (sym c.in-Some.is)
    (set_changed (λ p. with_tick p (pod_tick c.in-Some.observed)) c.args.number items piece c.hand.new.self
    (read_by_place items c.args.number piece c.requires.within c.index_mut.ensures.value) c.in_ok-hand.ensures.ok)
