use Rattle.std.proofs.Common.{◌≡◌, ◌∙◌, ◌++◌, ◌∷◌, ◌-◌, inl, [], ℕ, length, Some, None, refl, sym, subst, arith}
use Rattle.std.proofs.lemmas.List.{length-map}
use Rattle.histories.specs.rule.Histories.{recorded}
use Rattle.pod_state.specs.declared.lifecycle.Lifecycle.{Lifecycle}
use Rattle.pod_state.specs.rule.Pods.{pod_tick}
use Rattle.pod_state.specs.rule.Lifecycles.{IsLifecycleOf}
use Rattle.pod_piece.specs.declared.status.PodStatus.{PodStatus}
use Rattle.pod_piece.specs.state.Kept.{IsKept, piece_of}
use Rattle.pod_piece.specs.state.Piece.{piece, before_last}
use Rattle.pod_piece.proofs.PieceLemmas.{has_containers}
use Rattle.pod_piece.proofs.EvictedPieces.{kept_evicted}
use Rattle.pod_piece.proofs.EvictedPieces.{evicted_state, lived_before, may_evict}
use Rattle.pod_piece.proofs.ResourceLemmas.{resources_evicted}
use Rattle.pod_piece.proofs.UsageLemmas.{usage_evicted}
use Rattle.pod_piece.proofs.piece.PodPiece.evict.Goals as goal

pub evict-requires : goal.evict-requires
evict-requires c =
    let i = c.deref_mut-parts.result.now in
    let from = may_evict i _ c.args.self.now c.args.order.at c.deref_mut-parts.ensures.value c.self.view_is
    c.self.invariant c.requires.free c.requires.evictable c.requires.last in
    lived_before (piece_of i) (recorded c.args.order.at from.last.0) i.differs.items i.state i.status i.earlier.items
    i.events.items from.free from.none from.lived from.last.1 from.held

pub list-requires : goal.list-requires
list-requires c =
    let i = c.deref_mut-parts.result.now in
    let from = may_evict i _ c.args.self.now c.args.order.at c.deref_mut-parts.ensures.value c.self.view_is
    c.self.invariant c.requires.free c.requires.evictable c.requires.last in
    let p = piece_of i in
    let h = before_last p.handed in
    let now = evicted_state p (recorded c.args.order.at from.last.0) i.differs.items i.state c.evict.new.self i.status
    i.earlier.items i.events.items from.free from.none from.lived from.last.1 from.held
    (λ was before is. c.evict.ensures.state i.pod i.max_restart_delay h from.last.0 was before is) in
    from.held.listed.as_many ∙ has_containers i.pod i.max_restart_delay (Some (length h))
    (h ++ recorded c.args.order.at from.last.0 ∷ []) c.evict.new.self now

pub show-requires : goal.show-requires
show-requires c =
    let i = c.deref_mut-parts.result.now in
    let from = may_evict i _ c.args.self.now c.args.order.at c.deref_mut-parts.ensures.value c.self.view_is
    c.self.invariant c.requires.free c.requires.evictable c.requires.last in
    let p = piece_of i in
    let h = before_last p.handed in
    let now = evicted_state p (recorded c.args.order.at from.last.0) i.differs.items i.state c.evict.new.self i.status
    i.earlier.items i.events.items from.free from.none from.lived from.last.1 from.held
    (λ was before is. c.evict.ensures.state i.pod i.max_restart_delay h from.last.0 was before is) in
    from.held.shown.containers.as_many ∙ has_containers i.pod i.max_restart_delay (Some (length h))
    (h ++ recorded c.args.order.at from.last.0 ∷ []) c.evict.new.self now

pub invariant_of-self : goal.invariant_of-self
invariant_of-self c =
    let i = c.deref_mut-parts.result.now in
    let from = may_evict i _ c.args.self.now c.args.order.at c.deref_mut-parts.ensures.value c.self.view_is
    c.self.invariant c.requires.free c.requires.evictable c.requires.last in
    let p = piece_of i in
    let h = before_last p.handed in
    let x = recorded c.args.order.at from.last.0 in
    let k = h ++ x ∷ [] in
    let place : length p.handed - 1 ≡ c.len-place.result - 1 =
    omega (arith, c.len-place.ensures, length-map i.history pod_tick) in
    let status : PodStatus = record i.status {
      phase = c.lifecycle-lifecycle.result.phase;
      conditions = c.lifecycle-lifecycle.result.conditions;
      containers = c.show.new.statuses;
      order = Some c.args.order;
      failure = None;
    } in
    let kept = kept_evicted p x c.args.order i.differs.items c.list.new.differs.items i.state c.evict.new.self i.status
    status i.earlier.items i.events.items from.free from.none from.lived from.last.1 from.held
    (λ was before is. (
      c.evict.ensures.state i.pod i.max_restart_delay h from.last.0 was before is,
      c.evict.ensures.ends i.pod
          i.max_restart_delay h from.last.0 was before is,
    ))
    (λ shown none st end. record {
      number_is = shown.number_is;
      lifecycle = subst (λ (l : Lifecycle). IsLifecycleOf i.pod (Some (length h)) k l)
          (sym c.lifecycle-lifecycle.ensures) st.progress.so_far;
      containers = c.show.ensures i.pod i.max_restart_delay (Some (length h)) (Some (length h)) k end
          ((λ t. inl refl), (λ w. refl)) st;
      class = shown.class;
      resources = resources_evicted i.pod h x i.status.resources.items shown.resources none end;
      requests = shown.requests;
      usage = usage_evicted i.pod h x i.status.usage shown.usage none end;
      priority = shown.priority;
      spared = shown.spared;
      order = refl;
      failure = refl;
    })
    (λ st end. c.list.ensures i.pod i.max_restart_delay (Some (length h)) (Some (length h)) k end st) in
    subst (λ (n : ℕ). IsKept
    (piece i.number i.pod i.max_restart_delay i.history i.waiting i.begun
    (Some (record { place = n; order = c.args.order })))
    c.list.new.differs.items c.evict.new.self status i.earlier.items i.events.items) place kept
