-- The status of a pod after one more tick.
use Rattle.std.proofs.Common.{◌≡◌, inl, inr, ℕ, suc, zero, ◌<◌, Bool, true, false, List, [], ◌∷◌, ◌++◌, length}
use Rattle.std.proofs.Common.{Option, Some, None, refl, ap, subst, sym, ◌∙◌, arith}
use Rattle.std.specs.Prelude.{◌↔◌, IsTrue, not}
use Rattle.histories.specs.rule.Histories.{Recorded, recorded, moment_at, HoldsAt}
use Rattle.histories.proofs.Places.{length-more, project-append}
use Rattle.histories.proofs.First.{Grows}
use Rattle.histories.proofs.Growth.{grows_entry, grows_so}
use Rattle.histories.proofs.Transitions.{transition_same}
use Rattle.phase.specs.declared.phase.Phase.{Phase}
use Rattle.phase.specs.declared.phase.Phase.TheVariants.{Pending, Failed}
use Rattle.phase.specs.declared.conditions.Condition.{Condition}
use Rattle.phase.specs.declared.conditions.Conditions.{Conditions}
use Rattle.phase.specs.declared.conditions.Values.{Values}
use Rattle.manifest.specs.declared.pod.PodSpec.{PodSpec}
use Rattle.pod_state.specs.declared.lifecycle.Lifecycle.{Lifecycle}
use Rattle.phase.specs.declared.restart_view.RestartView.{RestartView}
use Rattle.phase.specs.state.Restarts.{of_restart_view}
use Rattle.phase.specs.rule.RawPhase.{IsTerminal, AreInitialized}
use Rattle.phase.specs.state.Conditions.{last_or, IsConditionOf, IsStateOf}
use Rattle.pod_state.specs.rule.Pods.{PodTick, facts, numbers, counted, AllReady, IsPhase, IsInitialized}
use Rattle.pod_state.specs.rule.Pods.{AreContainersReady}
use Rattle.pod_state.specs.rule.Gates.{AreGatesTrue, IsReady}
use Rattle.pod_state.specs.state.Pods.{AreViewsOf}
use Rattle.pod_state.specs.rule.Lifecycles.{IsConditionAfter, IsLifecycleOf}
use Rattle.pod_state.specs.state.Lifecycles.{AreValuesOf, IsProgressOf}
use Rattle.phase.proofs.ConditionLemmas.{IsTrueAt, last_or-more}
use Rattle.phase.proofs.DecideLemmas.{terminal_cases}
use Rattle.pod_state.proofs.EndLemmas.{IsPhase-unique, phase_ended, phase_by_node, terminal_end}
use Rattle.pod_state.proofs.EndLemmas.{initialized_ended, initialized_lives, ready_is}
use Rattle.pod_state.proofs.ViewLemmas.{initialized_after}

moments_more : (vs : List (Recorded Bool)) (h : List PodTick) (v : Recorded Bool) (x : PodTick) → v.moment ≡ x.moment
    → length vs ≡ length h
    → ((t : ℕ) → moment_at vs t ≡ moment_at h t) → (t : ℕ) → moment_at (vs ++ v ∷ []) t ≡ moment_at (h ++ x ∷ []) t
moments_more [] [] v x e n is zero = ap (λ m. Some m) e
moments_more [] [] v x e n is (suc t) = refl
moments_more [] (z ∷ h) v x e n is t = absurd (omega arith)
moments_more (y ∷ vs) [] v x e n is t = absurd (omega arith)
moments_more (y ∷ vs) (z ∷ h) v x e n is zero = is zero
moments_more (y ∷ vs) (z ∷ h) v x e n is (suc t) = moments_more vs h v x e (omega arith) (λ t. is (suc t)) t

-- the values, after one more
values_more : (C : List PodTick → Type 0) (h : List PodTick) (x : PodTick) (vs : List (Recorded Bool)) (b : Bool)
    → AreValuesOf C h vs → (IsTrue b ↔ C (h ++ x ∷ []))
    → AreValuesOf C (h ++ x ∷ []) (vs ++ recorded x.moment b ∷ [])
values_more C h x vs b are is =
    let g : Grows (length vs) (IsTrueAt vs) (IsTrueAt (vs ++ recorded x.moment b ∷ [])) (IsTrue b) =
    grows_entry IsTrue vs (recorded x.moment b) in
    let k : Grows (length h) (HoldsAt C h) (HoldsAt C (h ++ x ∷ [])) (C (h ++ x ∷ [])) = grows_so C h x in
    let P : ℕ → Type 0 = HoldsAt C (h ++ x ∷ []) in
    let Q : ℕ → Type 0 = IsTrueAt (vs ++ recorded x.moment b ∷ []) in
    record {
      count = omega (arith, length-more vs (recorded x.moment b), length-more h x, are.count);
      moments = moments_more vs h (recorded x.moment b) x refl are.count are.moments;
      same = λ t lt. (
        (λ q. elim (g.split t q) [
          | inl old ↦ k.old t ((are.same t (g.below t old)).0 old)
          | inr w ↦ let e : length h ≡ t = sym (w.0 ∙ are.count) in subst P e (k.new (is.0 w.1))
        ]),
        (λ s. elim (k.split t s) [
          | inl old ↦ let b : t < length h = k.below t old in g.old t ((are.same t (omega (arith, are.count))).1 old)
          | inr w ↦ let e : length vs ≡ t = are.count ∙ sym w.0 in subst Q e (g.new (is.1 w.1))
        ]),
      );
    }

-- a condition after these values is that after the ticks
condition_after : (C : List PodTick → Type 0) (h : List PodTick) (vs : List (Recorded Bool)) (initially : Bool)
    (c : Condition) → AreValuesOf C h vs
    → (IsTrue (last_or initially vs) ↔ C h) → IsConditionOf initially vs c → IsConditionAfter C h c
condition_after C h vs initially c are value is = record {
  value = let P : Bool → Type 0 = λ b. IsTrue b ↔ C h in subst P (sym is.value) value;
  since = transition_same vs h (IsTrueAt vs) (HoldsAt C h) c.since are.count are.moments (record { old = are.same })
      is.since;
}

more_after : (C : List PodTick → Type 0) (h : List PodTick) (x : PodTick) (vs : List (Recorded Bool))
    (b initially : Bool) (c : Condition) → AreValuesOf C h vs
    → (IsTrue b ↔ C (h ++ x ∷ [])) → IsConditionOf initially (vs ++ recorded x.moment b ∷ []) c
    → IsConditionAfter C (h ++ x ∷ []) c
more_after C h x vs b initially c are is of =
    let P : Bool → Type 0 = λ v. IsTrue v ↔ C (h ++ x ∷ []) in
    condition_after C (h ++ x ∷ []) (vs ++ recorded x.moment b ∷ []) initially c (values_more C h x vs b are is)
    (subst P (sym (last_or-more initially vs (recorded x.moment b))) is) of

-- without ticks
no_values : (C : List PodTick → Type 0) → AreValuesOf C [] []
no_values C = record { count = refl; moments = λ t. refl; same = λ t lt. absurd (omega arith) }

no_ready : (pod : PodSpec) (evicted : Option ℕ) → (IsTrue false ↔ AreContainersReady pod evicted [])
no_ready pod evicted = ((λ e. absurd (let e : IsTrue false = e in cc)), (λ w. absurd (w.0 refl)))

not_ready : (pod : PodSpec) (evicted : Option ℕ) → (IsTrue false ↔ IsReady pod evicted [])
not_ready pod evicted = ((λ e. absurd (let e : IsTrue false = e in cc)), (λ w. absurd (w.0.0 refl)))

counted-none : (o : Option ℕ) → counted [] o ≡ []
counted-none None = refl
counted-none (Some t) = refl

no_initialized : (pod : PodSpec) (evicted : Option ℕ) (views : List RestartView) (initialized : Bool)
    → AreViewsOf pod [] views → (IsTrue initialized ↔ AreInitialized of_restart_view views)
    → (IsTrue (not (not initialized)) ↔ IsInitialized pod evicted [])
no_initialized pod evicted views initialized are is =
    let after = initialized_after pod [] views are in
    let P : List PodTick → Type 0 = λ k. AreInitialized (facts pod k) (numbers pod) in
    let twice = not_not initialized in (
      (λ e. (None, (λ t s. let lt : t < 0 = s.within in absurd (omega arith)), after.1 (is.0 (subst IsTrue twice e)))),
      (λ w. subst IsTrue (sym twice) (is.1 (after.0 (subst P (counted-none w.0) w.2)))),
    )
  where
    not_not : (b : Bool) → not (not b) ≡ b
    not_not true = refl
    not_not false = refl

pub progress_new : (pod : PodSpec) (evicted : Option ℕ) (views : List RestartView) (initialized : Bool)
    (conditions : Conditions) → AreViewsOf pod [] views
    → (IsTrue initialized ↔ AreInitialized of_restart_view views) → IsStateOf (not initialized) [] conditions
    → IsProgressOf pod evicted [] (record { phase = Pending; conditions = conditions })
progress_new pod evicted views initialized conditions are tested is = record {
  so_far = record {
    phase = (None, (λ t s. let lt : t < 0 = s.within in absurd (omega arith)), inl (refl, refl));
    pod_scheduled = condition_after (λ _. Unit {0}) [] [] true conditions.pod_scheduled (no_values _)
        ((λ _. tt), (λ _. refl)) is.pod_scheduled;
    initialized = condition_after (IsInitialized pod evicted) [] [] (not (not initialized)) conditions.initialized
        (no_values _) (no_initialized pod evicted views initialized are tested) is.initialized;
    containers_ready = condition_after (AreContainersReady pod evicted) [] [] false conditions.containers_ready
        (no_values _) (no_ready pod evicted) is.containers_ready;
    ready = condition_after (IsReady pod evicted) [] [] false conditions.ready (no_values _) (not_ready pod evicted)
        is.ready;
  };
  values = [];
  has_init = not initialized;
  conditions = is;
  pod_scheduled = no_values _;
  initialized = no_values _;
  containers_ready = no_values _;
  ready = no_values _;
}

-- after one more tick
pub progress_more : (pod : PodSpec) (evicted : Option ℕ) (h : List PodTick) (x : PodTick) (status : Lifecycle)
    (phase : Phase) (conditions : Conditions) (values : Values)
    → IsProgressOf pod evicted h status → IsPhase pod evicted (h ++ x ∷ []) phase
    → (IsTrue values.initialized ↔ IsInitialized pod evicted (h ++ x ∷ []))
    → (IsTrue values.containers_ready ↔ AreContainersReady pod evicted (h ++ x ∷ []))
    → (IsTrue values.ready ↔ IsReady pod evicted (h ++ x ∷ []))
    → ((has_init : Bool) (vs : List (Recorded Values)) → IsStateOf has_init vs status.conditions
    → IsStateOf has_init (vs ++ recorded x.moment values ∷ []) conditions)
    → IsProgressOf pod evicted (h ++ x ∷ []) (record { phase = phase; conditions = conditions })
progress_more pod evicted h x status phase conditions values is next initialized containers ready advanced =
    let vs : List (Recorded Values) = is.values in
    let v : Recorded Values = recorded x.moment values in
    let state : IsStateOf (is.has_init) (vs ++ v ∷ []) conditions = advanced (is.has_init) vs is.conditions in
    let zero' = project-append (λ (w : Values). true) vs v in
    let one = project-append (λ (w : Values). w.initialized) vs v in
    let two = project-append (λ (w : Values). w.containers_ready) vs v in
    let three = project-append (λ (w : Values). w.ready) vs v in
    let O : List (Recorded Bool) → Type 0 = λ l. IsConditionOf true l conditions.pod_scheduled in
    let N : List (Recorded Bool) → Type 0 = λ l. AreValuesOf (λ _. Unit {0}) (h ++ x ∷ []) l in
    let P : List (Recorded Bool) → Type 0 = λ l. IsConditionOf (not (is.has_init)) l conditions.initialized in
    let Q : List (Recorded Bool) → Type 0 = λ l. IsConditionOf false l conditions.containers_ready in
    let Y : List (Recorded Bool) → Type 0 = λ l. IsConditionOf false l conditions.ready in
    let R : List (Recorded Bool) → Type 0 = λ l. AreValuesOf (IsInitialized pod evicted) (h ++ x ∷ []) l in
    let S : List (Recorded Bool) → Type 0 = λ l. AreValuesOf (AreContainersReady pod evicted) (h ++ x ∷ []) l in
    let Z : List (Recorded Bool) → Type 0 = λ l. AreValuesOf (IsReady pod evicted) (h ++ x ∷ []) l in
    record {
      so_far = record {
        phase = next;
        pod_scheduled = more_after (λ _. Unit {0}) h x _ true _ conditions.pod_scheduled is.pod_scheduled
            ((λ _. tt), (λ _. refl)) (subst O zero' state.pod_scheduled);
        initialized = more_after (IsInitialized pod evicted) h x _ values.initialized _ conditions.initialized
            is.initialized initialized (subst P one state.initialized);
        containers_ready = more_after (AreContainersReady pod evicted) h x _ values.containers_ready _
            conditions.containers_ready is.containers_ready containers (subst Q two state.containers_ready);
        ready = more_after (IsReady pod evicted) h x _ values.ready _ conditions.ready is.ready ready
            (subst Y three state.ready);
      };
      values = vs ++ v ∷ [];
      has_init = is.has_init;
      conditions = state;
      pod_scheduled = subst N (sym zero')
          (values_more (λ _. Unit {0}) h x _ true is.pod_scheduled ((λ _. tt), (λ _. refl)));
      initialized = subst R (sym one) (values_more (IsInitialized pod evicted) h x _ values.initialized is.initialized
          initialized);
      containers_ready = subst S (sym two) (values_more (AreContainersReady pod evicted) h x _ values.containers_ready
          is.containers_ready containers);
      ready = subst Z (sym three) (values_more (IsReady pod evicted) h x _ values.ready is.ready ready);
    }

-- whether the pod is initialized
pub initialized_more : (pod : PodSpec) (evicted : Option ℕ) (h : List PodTick) (x : PodTick) (status : Lifecycle)
    (views : List RestartView) (next : Phase) (b : Bool)
    → ((IsTerminal status.phase → ⊥) → AreViewsOf pod (h ++ x ∷ []) views) → IsLifecycleOf pod evicted h status
    → IsPhase pod evicted (h ++ x ∷ []) next
    → (IsTerminal status.phase → b ≡ status.conditions.initialized.value)
    → ((IsTerminal status.phase → ⊥) → (IsTrue b ↔ AreInitialized of_restart_view views))
    → (IsTrue b ↔ IsInitialized pod evicted (h ++ x ∷ []))
initialized_more pod evicted h x status views next b are is then ended living = elim (terminal_cases status.phase) [
  | inl term ↦
      let w = terminal_end pod evicted h status.phase is.phase term in
      let e : b ≡ status.conditions.initialized.value = ended term in
      let same = initialized_ended pod evicted h x w.0 w.1 in (
        (λ t. same.0 (is.initialized.value.0 (subst IsTrue e t))),
        (λ i. subst IsTrue (sym e) (is.initialized.value.1 (same.1 i))),
      )
  | inr not ↦
      let l = living not in
      let c = initialized_after pod (h ++ x ∷ []) views (are not) in
      let i = initialized_lives pod evicted h x status.phase next is.phase not then in
      ((λ t. i.1 (c.1 (l.0 t))), (λ w. l.1 (c.0 (i.0 w))))
]

-- whether its containers are ready
pub ready_more : (pod : PodSpec) (evicted : Option ℕ) (h : List PodTick) (x : PodTick) (ready : Bool)
    (phase next : Phase) (b : Bool)
    → ((IsTerminal phase → ⊥) → (IsTrue ready ↔ AllReady pod (h ++ x ∷ []))) → IsPhase pod evicted h phase
    → IsPhase pod evicted (h ++ x ∷ []) next
    → (IsTrue b ↔ ((IsTerminal next → ⊥) × IsTrue ready))
    → (IsTrue b ↔ AreContainersReady pod evicted (h ++ x ∷ []))
ready_more pod evicted h x ready phase next b are now then is =
    let r = ready_is pod evicted h x next then in
    elim (terminal_cases phase) [
      | inl term ↦
          let stays : IsPhase pod evicted (h ++ x ∷ []) phase = phase_ended pod evicted h x phase now term in
          let ended : IsTerminal next =
          subst IsTerminal (IsPhase-unique pod evicted (h ++ x ∷ []) phase next stays then) term in
          ((λ t. absurd ((is.0 t).0 ended)), (λ w. absurd ((r.0 w).0 ended)))
      | inr not ↦
          let a = are not in (
            (λ t. let w = is.0 t in r.1 (w.0, a.0 w.1)),
            (λ w. let v = r.0 w in is.1 (v.0, a.1 v.1)),
          )
    ]

-- whether it is ready, by whether its containers are and by whether the conditions of its gates are True
pub both_more : (pod : PodSpec) (evicted : Option ℕ) (h : List PodTick) (x : PodTick) (gates : Bool)
    (phase next : Phase) (b r : Bool)
    → ((IsTerminal phase → ⊥) → (IsTrue gates ↔ AreGatesTrue pod (h ++ x ∷ []))) → IsPhase pod evicted h phase
    → IsPhase pod evicted (h ++ x ∷ []) next
    → (IsTrue b ↔ AreContainersReady pod evicted (h ++ x ∷ [])) → (IsTrue r ↔ (IsTrue b × IsTrue gates))
    → (IsTrue r ↔ IsReady pod evicted (h ++ x ∷ []))
both_more pod evicted h x gates phase next b r are now then containers is =
    let ready = ready_is pod evicted h x next then in
    elim (terminal_cases phase) [
      | inl term ↦
          let stays : IsPhase pod evicted (h ++ x ∷ []) phase = phase_ended pod evicted h x phase now term in
          let ended : IsTerminal next =
          subst IsTerminal (IsPhase-unique pod evicted (h ++ x ∷ []) phase next stays then) term in (
            (λ t. absurd ((ready.0 (containers.0 (is.0 t).0)).0 ended)),
            (λ w. absurd ((ready.0 w.0).0 ended)),
          )
      | inr not ↦
          let g = are not in (
            (λ t. let w = is.0 t in (containers.0 w.0, g.0 w.1)),
            (λ w. is.1 (containers.1 w.0, g.1 w.1)),
          )
    ]

-- of a pod that had not ended before, and that this tick evicts
pub progress_evicted : (pod : PodSpec) (h : List PodTick) (x : PodTick) (before updated : Lifecycle)
    (conditions : Conditions) → (IsTerminal before.phase → ⊥)
    → IsLifecycleOf pod None h before → IsLifecycleOf pod None (h ++ x ∷ []) updated
    → IsProgressOf pod (Some (length h)) h before
    → ((has_init : Bool) (vs : List (Recorded Values)) → IsStateOf has_init vs before.conditions
    → IsStateOf has_init (vs ++ recorded x.moment
    (record { initialized = updated.conditions.initialized.value; containers_ready = false; ready = false }) ∷ [])
    conditions)
    → IsProgressOf pod (Some (length h)) (h ++ x ∷ []) (record { phase = Failed; conditions = conditions })
progress_evicted pod h x before updated conditions lives was after progress advanced =
    let at : Option ℕ = Some (length h) in
    let failed : IsPhase pod at (h ++ x ∷ []) Failed = phase_by_node pod at h x before.phase progress.so_far.phase
    lives (inl refl) in
    let one = initialized_lives pod None h x before.phase updated.phase was.phase lives after.phase in
    let other = initialized_lives pod at h x before.phase Failed progress.so_far.phase lives failed in
    let ready = ready_is pod at h x Failed failed in
    progress_more pod at h x before Failed conditions
    (record { initialized = updated.conditions.initialized.value; containers_ready = false; ready = false }) progress
    failed
    ((λ t. other.1 (one.0 (after.initialized.value.0 t))), (λ i. after.initialized.value.1 (one.1 (other.0 i))))
    ((λ t. absurd (let t' : IsTrue false = t in cc)), (λ r. absurd ((ready.0 r).0 (inr refl))))
    ((λ t. absurd (let t' : IsTrue false = t in cc)), (λ r. absurd ((ready.0 r.0).0 (inr refl))))
    advanced
