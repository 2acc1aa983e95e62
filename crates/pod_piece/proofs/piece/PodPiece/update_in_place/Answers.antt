use Rattle.std.proofs.Common.{◌∙◌, ◌-◌, ◌<◌, ◌++◌, ◌∷◌, [], List, Option, length, refl, ap, sym, subst, arith}
use Rattle.std.specs.Prelude.{not, if◌then◌else◌}
use Rattle.std.proofs.lemmas.List.{length-map}
use Rattle.manifest.specs.rule.Resources.{Resources}
use Rattle.observations.specs.declared.resize.Resize.{Resize}
use Rattle.observations.specs.declared.usage.Sampling.{Sampling}
use Rattle.pod_state.specs.declared.events.PodEvent.{PodEvent}
use Rattle.pod_state.specs.declared.lifecycle.Lifecycle.{Lifecycle}
use Rattle.pod_state.specs.rule.Pods.{pod_tick}
use Rattle.pod_state.specs.rule.Events.{AreEventsOf}
use Rattle.pod_state.specs.rule.Lifecycles.{IsLifecycleOf}
use Rattle.pod_state.specs.state.Lifecycles.{IsProgressOf}
use Rattle.pod_piece.specs.declared.made.MadeTick.{MadeTick}
use Rattle.pod_piece.specs.declared.status.NewestUsage.{NewestUsage}
use Rattle.pod_piece.specs.declared.status.PodFailure.{PodFailure}
use Rattle.pod_piece.specs.rule.Status.{failure_in, IsFailure}
use Rattle.pod_piece.specs.rule.Resources.{AreResourcesOf}
use Rattle.pod_piece.specs.rule.Usage.{IsUsageOf}
use Rattle.pod_piece.specs.state.Resources.{resized_by}
use Rattle.pod_piece.specs.state.Usage.{newer}
use Rattle.pod_piece.specs.state.Kept.{AreKept, piece_of}
use Rattle.pod_piece.specs.state.Made.{made_of, made_at}
use Rattle.pod_piece.specs.rule.Piece.{place_of, ticks}
use Rattle.pod_piece.specs.state.Piece.{piece}
use Rattle.pod_piece.proofs.NextTicks.{may_take, all_follow, is_over}
use Rattle.pod_piece.proofs.Failures.{failure_more, by_node}
use Rattle.pod_piece.proofs.PieceLemmas.{may_self, has_containers, kept_updated, end_is, evicted_over, moved_on}
use Rattle.pod_piece.proofs.PieceLemmas.{at_next}
use Rattle.pod_piece.proofs.ResourceLemmas.{resources_more}
use Rattle.pod_piece.proofs.UsageLemmas.{usage_more}
use Rattle.pod_piece.proofs.piece.PodPiece.update_in_place.Goals as goal

pub at-observed-requires : goal.at-observed-requires
at-observed-requires c =
    let i = c.deref_mut-parts.result.now in
    let held : AreKept i = subst AreKept (sym c.deref_mut-parts.ensures.value) c.self.invariant in
    let some : 0 < i.waiting = subst (λ w. 0 < w)
    (sym (ap (λ p. p.waiting) (ap piece_of c.deref_mut-parts.ensures.value ∙ c.self.view_is))) c.requires in
    omega (arith, held.within, length-map i.history pod_tick, c.len.ensures, some)

pub take-requires-clause-follows : goal.take-requires-clause-follows
take-requires-clause-follows c =
    let i = c.deref_mut-parts.result.now in
    let from = at_next i _ c.args.self.now (c.len.result - i.waiting) c.at-observed.result.now
    c.deref_mut-parts.ensures.value c.self.view_is c.self.invariant c.requires
    (ap (λ n. n - i.waiting) c.len.ensures) c.at-observed.ensures in
    may_take i.pod i.max_restart_delay (place_of i.eviction) (ticks (piece_of i)) i.state
    c.at-observed.result.now from.now from.next

pub take-requires-clause-bounded : goal.take-requires-clause-bounded
take-requires-clause-bounded c =
    let i = c.deref_mut-parts.result.now in
    let from = at_next i _ c.args.self.now (c.len.result - i.waiting) c.at-observed.result.now
    c.deref_mut-parts.ensures.value c.self.view_is c.self.invariant c.requires
    (ap (λ n. n - i.waiting) c.len.ensures) c.at-observed.ensures in
    from.next.bounded

pub follow_on-requires-clause-count : goal.follow_on-requires-clause-count
follow_on-requires-clause-count c =
    let i = c.deref_mut-parts.result.now in
    let observed = c.at-observed.result.now in
    let from = at_next i _ c.args.self.now (c.len.result - i.waiting) observed
    c.deref_mut-parts.ensures.value c.self.view_is c.self.invariant c.requires
    (ap (λ n. n - i.waiting) c.len.ensures) c.at-observed.ensures in
    let h = ticks (piece_of i) in
    let after =
    c.in_ok-events.ensures.ok i.max_restart_delay (place_of i.eviction) h from.not_now from.now in
    from.held.listed.as_many ∙ has_containers i.pod i.max_restart_delay (place_of i.eviction)
    (h ++ pod_tick observed ∷ []) c.take.new.self after

pub follow_on-requires-clause-follow : goal.follow_on-requires-clause-follow
follow_on-requires-clause-follow c = λ had.
    let i = c.deref_mut-parts.result.now in
    let observed = c.at-observed.result.now in
    let from = at_next i _ c.args.self.now (c.len.result - i.waiting) observed
    c.deref_mut-parts.ensures.value c.self.view_is c.self.invariant c.requires
    (ap (λ n. n - i.waiting) c.len.ensures) c.at-observed.ensures in
    let h = ticks (piece_of i) in
    let e = place_of i.eviction in
    let was : IsLifecycleOf i.pod e h c.lifecycle.result = subst (λ (l : Lifecycle). IsLifecycleOf i.pod e h l)
    (sym c.lifecycle.ensures) from.now.progress.so_far in
    all_follow i.pod h i.differs.items observed
    (from.held.listed.ended ((c.has_ended-had_ended.ensures.ended i.pod e h was).0 had)) from.next

pub resize_while-requires-clause-many : goal.resize_while-requires-clause-many
resize_while-requires-clause-many c =
    let i = c.deref_mut-parts.result.now in
    let from = at_next i _ c.args.self.now (c.len.result - i.waiting) c.at-observed.result.now
    c.deref_mut-parts.ensures.value c.self.view_is c.self.invariant c.requires
    (ap (λ n. n - i.waiting) c.len.ensures) c.at-observed.ensures in
    from.held.shown.resources.resized.as_many

pub resize_while-requires-clause-asked : goal.resize_while-requires-clause-asked
resize_while-requires-clause-asked c =
    let i = c.deref_mut-parts.result.now in
    let from = at_next i _ c.args.self.now (c.len.result - i.waiting) c.at-observed.result.now
    c.deref_mut-parts.ensures.value c.self.view_is c.self.invariant c.requires
    (ap (λ n. n - i.waiting) c.len.ensures) c.at-observed.ensures in
    from.held.shown.requests

pub show-requires : goal.show-requires
show-requires c =
    let i = c.deref_mut-parts.result.now in
    let observed = c.at-observed.result.now in
    let from = at_next i _ c.args.self.now (c.len.result - i.waiting) observed
    c.deref_mut-parts.ensures.value c.self.view_is c.self.invariant c.requires
    (ap (λ n. n - i.waiting) c.len.ensures) c.at-observed.ensures in
    let h = ticks (piece_of i) in
    let after =
    c.in_ok-events.ensures.ok i.max_restart_delay (place_of i.eviction) h from.not_now from.now in
    from.held.shown.containers.as_many ∙ has_containers i.pod i.max_restart_delay (place_of i.eviction)
    (h ++ pod_tick observed ∷ []) c.take.new.self after

pub invariant_of-self-2 : goal.invariant_of-self-2
invariant_of-self-2 c =
    let i = c.deref_mut-parts.result.now in
    let observed = c.at-observed.result.now in
    let place = c.len.result - i.waiting in
    let from = at_next i _ c.args.self.now place observed
    c.deref_mut-parts.ensures.value c.self.view_is c.self.invariant c.requires
    (ap (λ n. n - i.waiting) c.len.ensures) c.at-observed.ensures in
    let h = ticks (piece_of i) in
    let k = h ++ pod_tick observed ∷ [] in
    let e = place_of i.eviction in
    let was : IsLifecycleOf i.pod e h c.lifecycle.result = subst (λ (l : Lifecycle). IsLifecycleOf i.pod e h l)
    (sym c.lifecycle.ensures) from.now.progress.so_far in
    let earlier = moved_on i place c.move_on.new.earlier.items from.held from.long
    (λ t last at. c.move_on.ensures.moved t last at
    ∙ ap (λ (rows : List MadeTick). made_of rows ++ made_at last.at c.replace-before.result.items)
    c.make_room.ensures.same
    ∙ ap (λ (es : List PodEvent). made_of i.earlier.items ++ made_at last.at es) (ap
    (λ v. v.items) c.replace-before.ensures.value))
    (λ f. c.move_on.ensures.same f ∙ c.make_room.ensures.same) in
    kept_updated (piece i.number i.pod i.max_restart_delay i.history i.waiting i.begun i.eviction) (pod_tick observed)
    i.differs.items c.follow_on.new.differs.items
    i.state c.take.new.self i.status _ i.earlier.items c.move_on.new.earlier.items i.events.items
    c.replace-before.new.dest.items from.pending from.is from.held
    (c.follow_on.ensures i.pod i.max_restart_delay e h
    (is_over i.pod e h c.lifecycle.result.phase c.has_ended-had_ended.result was.phase
    c.has_ended-had_ended.ensures.terminal) from.held.listed
    (c.in_ok-events.ensures.ok i.max_restart_delay e h from.not_now from.now))
    (λ e not is. c.in_ok-events.ensures.ok i.max_restart_delay e h not is)
    (λ e is. subst (λ (l : Lifecycle). IsProgressOf i.pod e h l) (sym c.in_ok-events.ensures.before) is.progress)
    (λ e not is. subst (λ (es : List PodEvent). AreEventsOf i.pod i.max_restart_delay e h (pod_tick observed) es)
    (sym (ap (λ v. v.items) c.replace-before.ensures.after))
    (c.in_ok-events.ensures.events i.max_restart_delay e h not is))
    (λ shown before after.
    let st = after.now e (may_self e (length k)) in
    let phase = st.progress.so_far.phase in
    let failure : IsFailure i.pod i.eviction k c.note_failure.new.failure =
    subst (λ (f : Option PodFailure). IsFailure i.pod i.eviction k f) (sym c.note_failure.ensures)
    (failure_more i.pod i.eviction phase.0 h (pod_tick observed) i.status.failure c.has_ended-had_ended.result
    (evicted_over i.pod h e before.ended) shown.failure (c.has_ended-had_ended.ensures.ended i.pod e h was) phase.1) in
    record {
      number_is = shown.number_is;
      lifecycle = subst (λ (l : Lifecycle). IsLifecycleOf i.pod e k l) (sym c.lifecycle-lifecycle.ensures)
          st.progress.so_far;
      containers = c.show.ensures i.pod i.max_restart_delay e phase.0 k phase.1
          (by_node i.pod i.eviction k phase.0 c.note_failure.new.failure c.is_ended_by_node-is_ended.result
          c.is_ended_by_node-is_ended.ensures (end_is i.pod k e phase.0 after.ended phase.1) phase.1
          failure) st;
      class = shown.class;
      resources = subst (λ (rs : List Resources). AreResourcesOf i.pod e k rs) (sym c.resize_while.ensures.now)
          (subst (λ (resizes : List Resize). AreResourcesOf i.pod e k
          (if not c.has_ended-had_ended.result then resized_by resizes 0 i.status.resources.items
          else i.status.resources.items)) (sym c.resizes.ensures)
          (resources_more i.pod e phase.0 h (pod_tick observed) i.status.resources.items c.has_ended-had_ended.result
          shown.resources (c.has_ended-had_ended.ensures.ended i.pod e h was) phase.1));
      requests = c.resize_while.ensures.asked;
      usage = subst (λ (u : NewestUsage). IsUsageOf i.pod e k u) (sym c.newer_while-parts.ensures)
          (subst (λ (o : Sampling). IsUsageOf i.pod e k
          (if not c.has_ended-had_ended.result then newer i.status.usage o else i.status.usage))
          (sym c.sampling.ensures)
          (usage_more i.pod e phase.0 h (pod_tick observed) i.status.usage c.has_ended-had_ended.result shown.usage
          (c.has_ended-had_ended.ensures.ended i.pod e h was) phase.1));
      priority = shown.priority;
      spared = shown.spared;
      order = shown.order;
      failure = failure;
    })
    earlier
