-- A pod after one more tick.
use Rattle.std.proofs.Common.{◌≡◌, ◌∙◌, inl, inr, ℕ, List, [], ◌∷◌, ◌++◌, length, Option, Some, None, true, false}
use Rattle.std.proofs.Common.{slice_index_or, refl, sym, subst, ap, arith}
use Rattle.std.specs.Prelude.{◌↔◌, ◌≢◌, ◌||◌, Bool, IsSomeAnd, slice_get, unwrap_or}
use Rattle.std.specs.List.{list_any}
use Rattle.std.proofs.lemmas.List.Folds.{list_any-append}
use Rattle.histories.specs.state.Histories.{EndsBefore}
use Rattle.state_diff.specs.declared.seen.Seen.{Seen}
use Rattle.state_diff.specs.state.Instances.{IsAcceptable}
use Rattle.state_diff.proofs.Steps.{is_before}
use Rattle.manifest.specs.declared.pod.ContainerSpec.{ContainerSpec}
use Rattle.observations.specs.declared.container.ContainerObs.{ContainerObs}
use Rattle.containers.specs.rule.Ticks.{ContainerTick, listings}
use Rattle.containers.specs.state.Container.{Accepts, IsBefore, IsStateOf as IsContainerStateOf}
use Rattle.manifest.specs.declared.pod.PodSpec.{PodSpec}
use Rattle.phase.specs.rule.RawPhase.{IsTerminal}
use Rattle.containers.specs.declared.container.Container.{Container}
use Rattle.pod_state.specs.declared.state.PodState.{PodState}
use Rattle.pod_state.specs.rule.Pods.{PodTick, ticks_of, unseen, IsPhase, IsEnd, is_being_deleted, says_failed}
use Rattle.pod_state.specs.rule.Lifecycles.{IsLifecycleOf}
use Rattle.pod_state.specs.state.Lifecycles.{IsProgressOf}
use Rattle.pod_state.specs.state.Containers.{AreContainersOf, AreKept}
use Rattle.pod_state.specs.state.Gates.{AreStatusesOf}
use Rattle.pod_state.specs.state.States.{IsStateOf, MayFollow}
use Rattle.pod_state.specs.rule.Events.{AreMade, AreEventsOf, events_at, events_from}
use Rattle.pod_state.specs.declared.events.PodEvent.{PodEvent}
use Rattle.pod_state.specs.declared.lifecycle.Lifecycle.{Lifecycle}
use Rattle.containers.specs.declared.pod_event_kind.PodEventKind.{PodEventKind}
use Rattle.containers.specs.declared.pod_event_kind.PodEventKind.TheVariants as kinds
use Rattle.containers.specs.declared.events.ContainerEvents.{ContainerEvents}
use Rattle.pod_state.proofs.EndLemmas.{IsPhase-unique, ended_is, end_by_node}
use Rattle.pod_state.proofs.EndLemmas.{kept_all, kept_ended, kept_lives, kept_last}
use Rattle.pod_state.proofs.Left.{left_unique, phase_left}

or_none : (b : Bool) → (b || false) ≡ b
or_none true = refl
or_none false = refl

-- some item passes the test, with one more
any_more : {A : Type 0} (p : A → Bool) (xs : List A) (x : A) → list_any p (xs ++ x ∷ []) ≡ (list_any p xs || p x)
any_more p xs x = list_any-append p xs (x ∷ []) ∙ ap (λ b. list_any p xs || b) (or_none (p x))

-- whether it is being deleted after one more tick
pub deleting_more : (h : List PodTick) (x : PodTick) (old new : Bool) → old ≡ is_being_deleted h
    → new ≡ (old || x.entry.words.deleting) → new ≡ is_being_deleted (h ++ x ∷ [])
deleting_more h x old new is next =
    next ∙ ap (λ (b : Bool). b || x.entry.words.deleting) is
    ∙ sym (any_more (λ (tick : PodTick). tick.entry.words.deleting) h x)

-- once it has ended
pub after_end : (pod : PodSpec) (max_restart_delay : ℕ) (evicted : Option ℕ) (h : List PodTick) (x : PodTick)
    (old new : PodState) → IsStateOf pod max_restart_delay evicted h old → IsTerminal old.lifecycle.phase
    → new.containers ≡ old.containers → new.deleting ≡ (old.deleting || x.entry.words.deleting)
    → (AreStatusesOf (length pod.gates) h old.gates → AreStatusesOf (length pod.gates) (h ++ x ∷ []) new.gates)
    → IsProgressOf pod evicted (h ++ x ∷ []) new.lifecycle
    → IsStateOf pod max_restart_delay evicted (h ++ x ∷ []) new
after_end pod max_restart_delay evicted h x old new is ended same deleting gates progress =
    let kept =
    kept_ended pod max_restart_delay evicted h x old.lifecycle.phase old.containers.items is.progress.so_far.phase
    ended is.containers in
    record {
      progress = progress;
      containers = subst (λ cs. AreKept pod max_restart_delay evicted (h ++ x ∷ []) cs.items) (sym same) kept;
      deleting = deleting_more h x old.deleting new.deleting is.deleting deleting;
      gates = gates is.gates;
    }

-- until then, where its containers are these after the tick
pub before_end : (pod : PodSpec) (max_restart_delay : ℕ) (evicted : Option ℕ) (h : List PodTick) (x : PodTick)
    (old new : PodState) (containers : List Container) → IsStateOf pod max_restart_delay evicted h old
    → (IsTerminal old.lifecycle.phase → ⊥) → new.containers.items ≡ containers
    → new.deleting ≡ (old.deleting || x.entry.words.deleting)
    → (AreStatusesOf (length pod.gates) h old.gates → AreStatusesOf (length pod.gates) (h ++ x ∷ []) new.gates)
    → (AreContainersOf pod max_restart_delay h old.containers.items
    → AreContainersOf pod max_restart_delay (h ++ x ∷ []) containers)
    → (AreContainersOf pod max_restart_delay (h ++ x ∷ []) containers
    → IsProgressOf pod evicted (h ++ x ∷ []) new.lifecycle)
    → IsStateOf pod max_restart_delay evicted (h ++ x ∷ []) new
before_end pod max_restart_delay evicted h x old new containers is lives same deleting gates step advance =
    let phase = is.progress.so_far.phase in
    let before =
    kept_all pod max_restart_delay evicted h old.lifecycle.phase old.containers.items phase lives is.containers in
    let after = step before in
    let progress = advance after in
    let kept =
    kept_lives pod max_restart_delay evicted h x old.lifecycle.phase new.lifecycle.phase containers phase lives
    progress.so_far.phase after in
    record {
      progress = progress;
      containers =
          subst (λ (cs : List Container). AreKept pod max_restart_delay evicted (h ++ x ∷ []) cs) (sym same) kept;
      deleting = deleting_more h x old.deleting new.deleting is.deleting deleting;
      gates = gates is.gates;
    }

-- what comes next may come, where each listing may and each container's last tick is before it
accepts_next : (o : Option ContainerSpec) (max_restart_delay : ℕ) (k : List ContainerTick) (c : Container)
    (seen : Option Seen)
    → IsSomeAnd o (λ spec. IsContainerStateOf spec max_restart_delay k c)
    → IsAcceptable (listings k) seen → Accepts c seen
accepts_next None max_restart_delay k c seen is may = absurd is
accepts_next (Some spec) max_restart_delay k c seen is may = (is.differ.accepts seen).1 may

before_next : (o : Option ContainerSpec) (max_restart_delay : ℕ) (k : List ContainerTick) (c : Container) (at : ℕ)
    → IsSomeAnd o (λ spec. IsContainerStateOf spec max_restart_delay k c)
    → EndsBefore (listings k) at → IsBefore c at
before_next None max_restart_delay k c at is ends = absurd is
before_next (Some spec) max_restart_delay k c at is ends = is_before (listings k) c.differ at is.differ ends

pub may_follow : (pod : PodSpec) (max_restart_delay : ℕ) (evicted : Option ℕ) (h : List PodTick) (state : PodState)
    (at : ℕ)
    (shown : List ContainerObs) → IsStateOf pod max_restart_delay evicted h state
    → ((n : ℕ) → IsAcceptable (listings (ticks_of h n)) (unwrap_or (slice_get shown n) unseen).seen)
    → ((n : ℕ) → EndsBefore (listings (ticks_of h n)) at) → MayFollow state at shown
may_follow pod max_restart_delay evicted h state at shown is may ends =
    let all = λ (lives : IsTerminal state.lifecycle.phase → ⊥).
    kept_all pod max_restart_delay evicted h state.lifecycle.phase state.containers.items is.progress.so_far.phase lives
    is.containers in
    record {
      accepted = λ lives n d lt. let are = all lives in
          accepts_next (slice_get pod.containers n) max_restart_delay (ticks_of h n)
          (slice_index_or state.containers.items n d) _ (are.each n d (omega (arith, are.as_many))) (may n);
      later = λ lives n d lt. let are = all lives in
          before_next (slice_get pod.containers n) max_restart_delay (ticks_of h n)
          (slice_index_or state.containers.items n d)
          at (are.each n d (omega (arith, are.as_many))) (ends n);
    }

-- the events of a pod that had ended before the tick, and of one that had not
pub events_ended : (pod : PodSpec) (max_restart_delay : ℕ) (evicted : Option ℕ) (h : List PodTick) (x : PodTick)
    (state : PodState) (events : List PodEvent) → IsStateOf pod max_restart_delay evicted h state
    → IsTerminal state.lifecycle.phase → events ≡ [] → AreEventsOf pod max_restart_delay evicted h x events
events_ended pod max_restart_delay evicted h x state events is ended none =
    inl ((ended_is pod evicted h state.lifecycle.phase is.progress.so_far.phase).0 ended, none)

pub events_lives : (pod : PodSpec) (max_restart_delay : ℕ) (evicted : Option ℕ) (h : List PodTick) (x : PodTick)
    (state : PodState) (next : Lifecycle) (made : List ContainerEvents) (leaving : Bool)
    (change : Option PodEventKind) (events : List PodEvent)
    → IsStateOf pod max_restart_delay evicted h state → (IsTerminal state.lifecycle.phase → ⊥)
    → (evicted ≡ Some (length h) → ⊥)
    → (AreContainersOf pod max_restart_delay h state.containers.items → AreMade pod max_restart_delay h x made)
    → (AreContainersOf pod max_restart_delay h state.containers.items → IsPhase pod evicted (h ++ x ∷ []) next.phase)
    → ((kind : PodEventKind) → ((change ≡ Some kind)
    ↔ ((kind ≡ kinds.Phase next.phase) × (state.lifecycle.phase ≢ next.phase))))
    → leaving ≡ ((state.deleting || x.entry.words.deleting) || says_failed x)
    → events ≡ events_from next.phase leaving 0 made ++ events_at None (change ∷ [])
    → AreEventsOf pod max_restart_delay evicted h x events
events_lives pod max_restart_delay evicted h x state next made leaving change events is lives stays made_by phase_by
    changes said in_order =
    let phase = is.progress.so_far.phase in
    let old = state.lifecycle.phase in
    let containers = kept_all pod max_restart_delay evicted h old state.containers.items phase lives is.containers in
    let left = phase_left pod evicted h x old next.phase phase lives stays (phase_by containers) in
    let deleting = deleting_more h x state.deleting _ is.deleting refl in
    inr (
      (λ ended. lives ((ended_is pod evicted h old phase).1 ended)),
      record {
        made = made;
        are_made = made_by containers;
        phase = next.phase;
        is_phase = left;
        change = change;
        changes = λ kind. (
          (λ e. let w = (changes kind).0 e in
              (next.phase, w.0, left, (λ same. w.1 (IsPhase-unique pod evicted h old next.phase phase same)))),
          (λ w. (changes kind).1 (
            w.1 ∙ ap kinds.Phase (left_unique pod h x w.0 next.phase w.2 left),
            (λ same. w.3 (subst (IsPhase pod evicted h) (same ∙ left_unique pod h x next.phase w.0 left w.2) phase)),
          )),
        );
        in_order = in_order
            ∙ ap (λ (b : Bool). events_from next.phase b 0 made ++ events_at None (change ∷ []))
            (said ∙ ap (λ (b : Bool). b || says_failed x) deleting);
      },
    )

-- an eviction by the last tick ends a pod that had not ended before it
pub ends_evicted : (pod : PodSpec) (h : List PodTick) (x : PodTick) (old : PodState)
    → (IsTerminal old.before.phase → ⊥) → IsProgressOf pod (Some (length h)) h old.before
    → IsEnd pod (Some (length h)) (h ++ x ∷ []) (Some (length h))
ends_evicted pod h x old lives before =
    end_by_node pod (Some (length h)) h x old.before.phase before.so_far.phase lives (inl refl)

-- where the last tick evicts the pod
pub when_evicted : (pod : PodSpec) (max_restart_delay : ℕ) (h : List PodTick) (x : PodTick) (old new : PodState)
    → (IsTerminal old.before.phase → ⊥) → new.containers ≡ old.containers → new.deleting ≡ old.deleting
    → new.gates ≡ old.gates
    → IsLifecycleOf pod None h old.before → IsStateOf pod max_restart_delay None (h ++ x ∷ []) old
    → IsProgressOf pod (Some (length h)) h old.before
    → IsProgressOf pod (Some (length h)) (h ++ x ∷ []) new.lifecycle → IsStateOf pod max_restart_delay (Some (length h))
    (h ++ x ∷ []) new
when_evicted pod max_restart_delay h x old new lives same deleting gates was is before progress =
    let containers = kept_last pod max_restart_delay None h x old.before.phase old.containers.items was.phase lives
    is.containers in
    let kept =
    kept_lives pod max_restart_delay (Some (length h)) h x old.before.phase new.lifecycle.phase old.containers.items
    before.so_far.phase lives progress.so_far.phase containers in
    record {
      progress = progress;
      containers = subst (λ cs. AreKept pod max_restart_delay (Some (length h)) (h ++ x ∷ []) cs.items) (sym same) kept;
      deleting = deleting ∙ is.deleting;
      gates = subst (λ g. AreStatusesOf (length pod.gates) (h ++ x ∷ []) g) (sym gates) is.gates;
    }
