-- There is one status of a pod, and of each of its containers.
use Rattle.std.proofs.Common.{◌≡◌, inl, inr, ℕ, ℤ, Bool, List, Option, Some, None, ap, refl, subst, sym, ◌∙◌}
use Rattle.std.specs.Prelude.{◌↔◌}
use Rattle.histories.proofs.First.{IsFirstMoment-unique}
use Rattle.state_diff.specs.declared.seen.CriState.TheVariants.{Created, Running as IsRunning, Exited}
use Rattle.state_diff.specs.rule.Instances.{Tick, IsState}
use Rattle.state_diff.proofs.Acceptable.{same_test}
use Rattle.state_diff.proofs.Unique.{IsNewest-unique, IsState-unique}
use Rattle.phase.specs.declared.phase.Phase.{Phase}
use Rattle.phase.specs.declared.conditions.Condition.{Condition}
use Rattle.phase.specs.declared.conditions.Conditions.{Conditions}
use Rattle.phase.specs.declared.container.ContainerState.{ContainerState}
use Rattle.phase.specs.declared.container.ContainerState.TheVariants.{Waiting, Running, Terminated}
use Rattle.containers.specs.declared.status.ContainerStatus.{ContainerStatus}
use Rattle.manifest.specs.declared.pod.PodSpec.{PodSpec}
use Rattle.pod_state.specs.declared.lifecycle.Lifecycle.{Lifecycle}
use Rattle.containers.specs.rule.Ticks.{ContainerTick}
use Rattle.containers.specs.rule.Shown.{state_behind, IsContainerState, IsRestarts, IsShown}
use Rattle.manifest.specs.declared.pod.ContainerSpec.{ContainerSpec}
use Rattle.pod_state.specs.rule.Pods.{PodTick, ticks_of, OfSpec, counted, EndsByNode}
use Rattle.pod_state.specs.rule.Lifecycles.{IsConditionAfter, IsLifecycleOf}
use Rattle.pod_state.specs.rule.Containers.{IsContainerStatus}
use Rattle.pod_state.proofs.TickLemmas.{together, whatever}
use Rattle.pod_state.proofs.EndLemmas.{IsEnd-unique, IsPhase-unique}

condition_same : (c d : Condition) → c.value ≡ d.value → c.since ≡ d.since → c ≡ d
condition_same c d e f =
    let P : Option ℕ → Type 0 = λ o. c ≡ record { value = c.value; since = o } in
    let Q : Bool → Type 0 = λ v. c ≡ record { value = v; since = d.since } in
    subst Q e (subst P f refl)

condition_one : (C : List PodTick → Type 0) (h : List PodTick) (c d : Condition) → IsConditionAfter C h c
    → IsConditionAfter C h d → c ≡ d
condition_one C h c d is is' =
    condition_same c d (same_test c.value d.value is.value is'.value)
    (IsFirstMoment-unique h _ c.since d.since is.since is'.since)

conditions_same : (c d : Conditions) → c.pod_scheduled ≡ d.pod_scheduled → c.initialized ≡ d.initialized
    → c.containers_ready ≡ d.containers_ready → c.ready ≡ d.ready → c ≡ d
conditions_same c d e f g r =
    let O : Condition → Type 0 = λ x. c ≡ record {
      pod_scheduled = c.pod_scheduled;
      initialized = c.initialized;
      containers_ready = c.containers_ready;
      ready = x;
    } in
    let P : Condition → Type 0 = λ x. c ≡ record {
      pod_scheduled = c.pod_scheduled;
      initialized = c.initialized;
      containers_ready = x;
      ready = d.ready;
    } in
    let Q : Condition → Type 0 = λ x. c ≡ record {
      pod_scheduled = c.pod_scheduled;
      initialized = x;
      containers_ready = d.containers_ready;
      ready = d.ready;
    } in
    let R : Condition → Type 0 = λ x. c ≡ record {
      pod_scheduled = x;
      initialized = d.initialized;
      containers_ready = d.containers_ready;
      ready = d.ready;
    } in
    subst R e (subst Q f (subst P g (subst O r refl)))

status_same : (s t : Lifecycle) → s.phase ≡ t.phase → s.conditions ≡ t.conditions → s ≡ t
status_same s t e f =
    let P : Conditions → Type 0 = λ x. s ≡ record { phase = s.phase; conditions = x } in
    let Q : Phase → Type 0 = λ x. s ≡ record { phase = x; conditions = t.conditions } in
    subst Q e (subst P f refl)

pub status_one : (pod : PodSpec) (evicted : Option ℕ) (h : List PodTick) (s t : Lifecycle)
    → IsLifecycleOf pod evicted h s → IsLifecycleOf pod evicted h t → s ≡ t
status_one pod evicted h s t is is' =
    status_same s t (IsPhase-unique pod evicted h s.phase t.phase is.phase is'.phase)
    (conditions_same s.conditions t.conditions
    (condition_one _ h _ _ is.pod_scheduled is'.pod_scheduled)
    (condition_one _ h _ _ is.initialized is'.initialized)
    (condition_one _ h _ _ is.containers_ready is'.containers_ready)
    (condition_one _ h _ _ is.ready is'.ready))

-- the state behind what is shown says what is shown
behind : (s t : ContainerState) → state_behind s ≡ state_behind t → s ≡ t
behind Waiting Waiting e = refl
behind Waiting Running e = let x : Created ≡ IsRunning = e in cc
behind Waiting Terminated e = let x : Created ≡ Exited = e in cc
behind Running Waiting e = let x : IsRunning ≡ Created = e in cc
behind Running Running e = refl
behind Running Terminated e = let x : IsRunning ≡ Exited = e in cc
behind Terminated Waiting e = let x : Exited ≡ Created = e in cc
behind Terminated Running e = let x : Exited ≡ IsRunning = e in cc
behind Terminated Terminated e = refl

state_one : (h : List Tick) (s t : ContainerState) → IsContainerState h s → IsContainerState h t → s ≡ t
state_one h s t (inl w) (inl v) = w.1 ∙ sym v.1
state_one h s t (inl w) (inr (b, m, y)) = absurd (w.0 b m.listed.0 m.listed.1)
state_one h s t (inr (a, n, x)) (inl v) = absurd (v.0 a n.listed.0 n.listed.1)
state_one h s t (inr (a, n, x)) (inr (b, m, y)) =
    let P : ℕ → Type 0 = λ k. IsState h k (state_behind s) in
    behind s t (IsState-unique h b (state_behind s) (state_behind t) (subst P (IsNewest-unique h a b n m) x) y)

restarts_one : (h : List Tick) (s t : ℕ) → IsRestarts h s → IsRestarts h t → s ≡ t
restarts_one h s t (inl w) (inl v) = w.1 ∙ sym v.1
restarts_one h s t (inl w) (inr m) = absurd (w.0 t m.listed.0 m.listed.1)
restarts_one h s t (inr n) (inl v) = absurd (v.0 s n.listed.0 n.listed.1)
restarts_one h s t (inr n) (inr m) = IsNewest-unique h s t n m

code_one : (P : ℤ → Type 0) (o p : Option ℤ) → ((k : ℤ) → ((o ≡ Some k) ↔ P k)) → ((k : ℤ) → ((p ≡ Some k) ↔ P k))
    → o ≡ p
code_one P None None is is' = refl
code_one P None (Some k) is is' = (is k).1 ((is' k).0 refl)
code_one P (Some k) p is is' = sym ((is' k).1 ((is k).0 refl))

abbrev status_with : ContainerState → Option ℤ → ℕ → Bool → Bool → ContainerStatus
status_with state code restarts ready started =
    record { state = state; code = code; restarts = restarts; ready = ready; started = started }

shown_same : (s t : ContainerStatus) → s.state ≡ t.state → s.code ≡ t.code → s.restarts ≡ t.restarts
    → s.ready ≡ t.ready → s.started ≡ t.started → s ≡ t
shown_same s t e f g i j =
    ap (λ x. status_with x s.code s.restarts s.ready s.started) e
    ∙ ap (λ x. status_with t.state x s.restarts s.ready s.started) f
    ∙ ap (λ x. status_with t.state t.code x s.ready s.started) g
    ∙ ap (λ x. status_with t.state t.code t.restarts x s.started) i
    ∙ ap (λ x. status_with t.state t.code t.restarts t.ready x) j

shown_one : (spec : ContainerSpec) (is_ended : Type 0) (h : List ContainerTick) (s t : ContainerStatus)
    → IsShown spec is_ended h s → IsShown spec is_ended h t → s ≡ t
shown_one spec is_ended h s t is is' =
    shown_same s t (state_one _ s.state t.state is.state is'.state) (code_one _ s.code t.code is.code is'.code)
    (restarts_one _ s.restarts t.restarts is.restarts is'.restarts)
    (same_test s.ready t.ready is.ready is'.ready) (same_test s.started t.started is.started is'.started)

pub container_one : (pod : PodSpec) (evicted : Option ℕ) (h : List PodTick) (container : ℕ) (s t : ContainerStatus)
    → IsContainerStatus pod evicted h container s → IsContainerStatus pod evicted h container t → s ≡ t
container_one pod evicted h container s t is is' =
    let ticks = ticks_of (counted h is'.end) container in
    let ended : Type 0 = EndsByNode evicted h is'.end in
    let P : Option ℕ → Type 0 =
    λ o. OfSpec pod container (λ spec. IsShown spec (EndsByNode evicted h o) (ticks_of (counted h o) container) s) in
    let first : OfSpec pod container (λ spec. IsShown spec ended ticks s) =
    subst P (IsEnd-unique pod evicted h is.end is'.end is.is_end is'.is_end) is.shown in
    let both : OfSpec pod container (λ spec. s ≡ t) =
    together pod container (λ spec. IsShown spec ended ticks s) (λ spec. IsShown spec ended ticks t) (λ spec. s ≡ t)
    (λ spec a b. shown_one spec ended ticks s t a b) first is'.shown in
    whatever pod container (λ spec. s ≡ t) (s ≡ t) (λ spec e. e) both
