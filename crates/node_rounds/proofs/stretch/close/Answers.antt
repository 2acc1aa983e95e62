use Rattle.std.proofs.Common.{List, [], ◌∷◌, ◌++◌, Option, Some, refl, sym, subst}
use Rattle.pod_piece.specs.rule.Piece.{Piece}
use Rattle.pod_piece.specs.state.Piece.{pods_in}
use Rattle.event_list.specs.declared.tick.TickEvents.{TickEvents}
use Rattle.event_list.specs.state.Tick.{AreOfTicks, MomentsRise}
use Rattle.eviction.specs.declared.eviction.Eviction.{Eviction}
use Rattle.eviction.specs.rule.Replay.{unless_recorded}
use Rattle.node_rounds.specs.state.Evict.{AreWithout}
use Rattle.node_rounds.specs.state.Node.{state}
use Rattle.node_rounds.proofs.Candidates.{is_chosen, may_be_carried_out}
use Rattle.node_rounds.proofs.Opens.{moments_rise, are_of_ticks, free_back, closes_as, closed_kept}
use Rattle.node_rounds.proofs.stretch.close.Goals as goal

pub add_events-added-requires-clause-rising : goal.add_events-added-requires-clause-rising
add_events-added-requires-clause-rising g c =
    let by = c.requires in
    subst (λ (rows : List TickEvents). MomentsRise rows) (sym c.deref.ensures.value)
    (moments_rise by.node by.calm by.tick c.args.begun by.may.has_begun by.may.fits)

pub add_events-added-requires-clause-within : goal.add_events-added-requires-clause-within
add_events-added-requires-clause-within g c =
    let by = c.requires in
    subst (λ (rows : List TickEvents). AreOfTicks rows c.pieces.result.now) (sym c.deref.ensures.value)
    (subst (λ (ps : List Piece). AreOfTicks c.args.begun.ticks.items ps) (sym c.pieces.ensures)
    (are_of_ticks by.node by.calm by.tick c.args.begun c.args.pods c.args.book by.kept by.may))

pub close-pods-requires : goal.close-pods-requires
close-pods-requires g c =
    let by = c.requires in
    free_back by.node (by.calm ++ by.tick ∷ []) c.args.pods by.may.pods_are

pub carry_out-requires : goal.carry_out-requires
carry_out-requires g c =
    let b = c.args.begun in
    let pieces = c.close-pods.result.pieces in
    may_be_carried_out b.config pieces b.at b.heeded c.unless_recorded.result
    (is_chosen b.config pieces b.at b.heeded b.config.evictions_recorded c.in-Ok.choice c.unless_recorded.result
    c.in-Ok.ensures c.unless_recorded.ensures)

pub invariant_of-result : goal.invariant_of-result
invariant_of-result g c =
    let by = c.requires in
    let b = c.args.begun in
    let evs = c.add_last-added.new.events.items in
    let es = c.add_last-added.new.evictions in
    closed_kept by.node by.calm by.tick b c.args.pods c.args.book
    (state b.config b.signals c.carry_out.new.pods es evs c.args.book (Some b.at)) by.kept by.may
    (closes_as (pods_in by.node.pods.pieces) by.kept.ticks by.node by.calm by.tick b c.args.pods c.close-pods.result
    c.carry_out.new.pods c.args.book c.deref.result.now c.pieces.result.now c.in-Ok.choice
    (unless_recorded b.config.evictions_recorded c.in-Ok.choice) c.add_events-added.new.events.items evs es
    by.kept.taken by.may c.deref.ensures.value c.pieces.ensures
    c.in_default.ensures c.close-pods.ensures c.in-Ok.ensures refl
    (subst (λ (o : Option Eviction). AreWithout c.close-pods.result.pieces o c.carry_out.new.pods.pieces)
    c.unless_recorded.ensures c.carry_out.ensures.pieces)
    c.carry_out.ensures.max_restart_delay c.carry_out.ensures.dedicated c.in-Ok-added.ensures.events
    c.in-Ok-added.ensures.evictions) refl

pub returns-in-Ok-added : goal.returns-in-Ok-added
returns-in-Ok-added g c s calm tick may = record {
  config = may.has_begun.config;
  taken = λ pods before taken.
      closes_as pods before s calm tick c.args.begun c.args.pods c.close-pods.result c.carry_out.new.pods c.args.book
      c.deref.result.now c.pieces.result.now c.in-Ok.choice
      (unless_recorded c.args.begun.config.evictions_recorded c.in-Ok.choice) c.add_events-added.new.events.items
      c.add_last-added.new.events.items c.add_last-added.new.evictions taken may c.deref.ensures.value c.pieces.ensures
      c.in_default.ensures c.close-pods.ensures c.in-Ok.ensures refl
      (subst (λ (o : Option Eviction). AreWithout c.close-pods.result.pieces o c.carry_out.new.pods.pieces)
      c.unless_recorded.ensures c.carry_out.ensures.pieces)
      c.carry_out.ensures.max_restart_delay c.carry_out.ensures.dedicated c.in-Ok-added.ensures.events
      c.in-Ok-added.ensures.evictions;
}
