-- Of every history of a pod there are the views of its containers, its end, its phase and conditions,
-- and the statuses of its containers.
use Rattle.std.proofs.Common.{◌≡◌, inl, inr, ℕ, zero, suc, ◌<◌, Bool, true, false, List, [], ◌∷◌, length, Option, Some}
use Rattle.std.proofs.Common.{None, refl, subst, arith}
use Rattle.std.specs.Prelude.{IsTrue, slice_get}
use Rattle.std.proofs.lemmas.Bool.{cases_eq}
use Rattle.std.proofs.lemmas.Option.{same_Some}
use Rattle.histories.specs.rule.Histories.{HoldsAt}
use Rattle.histories.proofs.Decide.{OrNot, negated, both, either, all_three, implied, test_of, given_or_not}
use Rattle.histories.proofs.Found.{all_below, first_so, so_or_not, transition_of, list_of}
use Rattle.histories.proofs.Lists.{given_at}
use Rattle.manifest.specs.declared.pod.PodSpec.{PodSpec}
use Rattle.manifest.specs.declared.pod.Role.TheVariants.{Sidecar, App}
use Rattle.phase.specs.declared.phase.Phase.{Phase}
use Rattle.phase.specs.declared.phase.Phase.TheVariants.{Pending, Failed}
use Rattle.phase.specs.declared.conditions.Condition.{Condition}
use Rattle.phase.specs.declared.restart_view.RestartView.{RestartView}
use Rattle.phase.specs.rule.RawPhase.{IsTerminal, AreInitialized}
use Rattle.phase.proofs.DecideLemmas.{role_or_not, initialized_by_or_not as views_initialized_or_not}
use Rattle.phase.proofs.DecideLemmas.{terminal_cases}
use Rattle.containers.specs.rule.Shown as shown
use Rattle.containers.specs.state.Shown as viewed
use Rattle.containers.specs.declared.status.ContainerStatus.{ContainerStatus}
use Rattle.containers.proofs.FoundLemmas.{restart_view_of, status_of, ready_or_not}
use Rattle.pod_state.specs.declared.lifecycle.Lifecycle.{Lifecycle}
use Rattle.pod_state.specs.rule.Pods.{PodTick, ticks_of, Serves, IsReadyInPod, facts, numbers}
use Rattle.pod_state.specs.state.Pods.{IsViewOf, AreViewsOf}
use Rattle.pod_state.specs.rule.Pods.{IsRawPhaseAfter, EndsPod, IsEnd, counted, EndsByNode, IsPhaseBy, IsPhase}
use Rattle.pod_state.specs.rule.Pods.{IsInitialized, AllReady, AreContainersReady, says_failed, IsEndedByNode}
use Rattle.pod_state.specs.rule.Gates.{IsReady}
use Rattle.pod_state.proofs.GateLemmas.{gates_true_or_not}
use Rattle.pod_state.specs.rule.Lifecycles.{IsConditionAfter, IsLifecycleOf}
use Rattle.pod_state.specs.rule.Containers.{IsContainerStatus, AreStatusesOf}
use Rattle.pod_state.specs.state.Laws.{SomeStatus}
use Rattle.pod_state.proofs.TickLemmas.{of_spec}
use Rattle.pod_state.proofs.ViewLemmas.{initialized_after}
use Rattle.pod_state.proofs.EndLemmas.{IsEnd-unique, raw_unique}
use Rattle.pod_state.proofs.LawLemmas.{one_raw_phase}
use Rattle.pod_state.proofs.ContainerLemmas.{serving_within}

-- the views
view_at : (pod : PodSpec) (h : List PodTick) (k : ℕ) → k < length pod.containers
    → (view : RestartView) × IsViewOf pod h k view
view_at pod h k lt =
    let spec = given_at pod.containers k lt in
    let view = restart_view_of pod.policy spec.0 (ticks_of h k) in
    (view.0, of_spec pod k (λ spec. viewed.IsRestartViewOf pod.policy spec (ticks_of h k) view.0) spec.0 spec.1 view.1)

pub some_views : (pod : PodSpec) (h : List PodTick) → (views : List RestartView) × AreViewsOf pod h views
some_views pod h =
    let w = list_of (IsViewOf pod h) (length pod.containers) (view_at pod h) in
    (w.0, record { as_many = w.1; each = w.2 })

pub some_raw_phase : (pod : PodSpec) (h : List PodTick) → (phase : Phase) × IsRawPhaseAfter pod h phase
some_raw_phase pod h = let views = some_views pod h in one_raw_phase.some pod h views.0 views.1

-- the end
raw_end_or_not : (pod : PodSpec) (h : List PodTick)
    → OrNot ((phase : Phase) × IsTerminal phase × IsRawPhaseAfter pod h phase)
raw_end_or_not pod h =
    let raw = some_raw_phase pod h in
    elim (terminal_cases raw.0) [
      | inl term ↦ inl (raw.0, term, raw.1)
      | inr not ↦ inr (λ (phase, term, is). not (subst IsTerminal (raw_unique pod h phase raw.0 is raw.1) term))
    ]

pub place_or_not : (o : Option ℕ) (t : ℕ) → OrNot (o ≡ Some t)
place_or_not None t = inr (λ e. cc)
place_or_not (Some u) t = elim (cases_eq u t) [ inl e ↦ inl (rw e refl) | inr not ↦ inr (λ e. not (same_Some u t e)) ]

true_or_not : (b : Bool) → OrNot (IsTrue b)
true_or_not true = inl refl
true_or_not false = inr (λ e. let w : false ≡ true = e in absurd (cc))

node_ends_or_not : (evicted : Option ℕ) (h : List PodTick) (t : ℕ) → OrNot (IsEndedByNode evicted h t)
node_ends_or_not evicted h t =
    either (place_or_not evicted t)
    (given_or_not (λ tick. IsTrue (says_failed tick)) (λ tick. true_or_not (says_failed tick)) (slice_get h t))

node_ends_last_or_not : (evicted : Option ℕ) (h : List PodTick) (n : ℕ) → length h ≡ n
    → OrNot ((t : ℕ) × (length h ≡ suc t) × IsEndedByNode evicted h t)
node_ends_last_or_not evicted h zero long = inr (λ w. absurd (omega (arith, long, w.1)))
node_ends_last_or_not evicted h (suc t) long = elim (node_ends_or_not evicted h t) [
  | inl ends ↦ inl (t, long, ends)
  | inr not ↦ inr (λ w. let same : w.0 ≡ t = omega (arith, long, w.1) in not (subst (IsEndedByNode evicted h) same w.2))
]

ends_or_not : (pod : PodSpec) (evicted : Option ℕ) (h : List PodTick) → OrNot (EndsPod pod evicted h)
ends_or_not pod evicted h = either (raw_end_or_not pod h) (node_ends_last_or_not evicted h (length h) refl)

pub some_end : (pod : PodSpec) (evicted : Option ℕ) (h : List PodTick) → (end : Option ℕ) × IsEnd pod evicted h end
some_end pod evicted h = first_so (EndsPod pod evicted) (ends_or_not pod evicted) h

-- the phase
empty_or_not : (h : List PodTick) → OrNot (h ≡ [])
empty_or_not [] = inl refl
empty_or_not (x ∷ h) = inr (λ e. cc)

pub by_node_or_not : (evicted : Option ℕ) (h : List PodTick) (end : Option ℕ) → OrNot (EndsByNode evicted h end)
by_node_or_not evicted h end = given_or_not (IsEndedByNode evicted h) (node_ends_or_not evicted h) end

phase_by : (pod : PodSpec) (evicted : Option ℕ) (h : List PodTick) (end : Option ℕ)
    → (phase : Phase) × IsPhaseBy pod evicted h end phase
phase_by pod evicted h end = elim (empty_or_not h) [
  | inl none ↦ (Pending, inl (none, refl))
  | inr some ↦ elim (by_node_or_not evicted h end) [
    | inl by ↦ (Failed, inr (some, inl (by, refl)))
    | inr not ↦ let raw = some_raw_phase pod (counted h end) in (raw.0, inr (some, inr (not, raw.1)))
  ]
]

pub some_phase : (pod : PodSpec) (evicted : Option ℕ) (h : List PodTick) → (phase : Phase) × IsPhase pod evicted h phase
some_phase pod evicted h =
    let end = some_end pod evicted h in
    let phase = phase_by pod evicted h end.0 in
    (phase.0, (end.0, end.1, phase.1))

-- the conditions
prepared_or_not : (pod : PodSpec) (h : List PodTick) → OrNot (AreInitialized (facts pod h) (numbers pod))
prepared_or_not pod h =
    let views = some_views pod h in
    let same = initialized_after pod h views.0 views.1 in
    elim (views_initialized_or_not views.0) [ inl all ↦ inl (same.1 all) | inr not ↦ inr (λ all. not (same.0 all)) ]

initialized_or_not : (pod : PodSpec) (evicted : Option ℕ) (h : List PodTick) → OrNot (IsInitialized pod evicted h)
initialized_or_not pod evicted h =
    let end = some_end pod evicted h in
    let P : Option ℕ → Type 0 = λ o. AreInitialized (facts pod (counted h o)) (numbers pod) in
    elim (prepared_or_not pod (counted h end.0)) [
      | inl all ↦ inl (end.0, end.1, all)
      | inr not ↦ inr (λ (o, is, all). not (subst P (IsEnd-unique pod evicted h o end.0 is end.1) all))
    ]

lives_or_not : (pod : PodSpec) (evicted : Option ℕ) (h : List PodTick) (o : Option ℕ) → IsEnd pod evicted h o
    → OrNot (IsEnd pod evicted h None)
lives_or_not pod evicted h None lives = inl lives
lives_or_not pod evicted h (Some t) first = inr (λ lives. lives t first.holds)

serves_or_not : (pod : PodSpec) (container : ℕ) → OrNot (Serves pod container)
serves_or_not pod container =
    either (given_or_not _ (λ spec. role_or_not Sidecar spec.role) (slice_get pod.containers container))
    (given_or_not _ (λ spec. role_or_not App spec.role) (slice_get pod.containers container))

ready_at_or_not : (pod : PodSpec) (h : List PodTick) (container : ℕ) → OrNot (IsReadyInPod pod h container)
ready_at_or_not pod h container =
    given_or_not _ (λ spec. ready_or_not spec (ticks_of h container)) (slice_get pod.containers container)

all_ready_or_not : (pod : PodSpec) (h : List PodTick) → OrNot (AllReady pod h)
all_ready_or_not pod h =
    let each = λ (c : ℕ). implied (serves_or_not pod c) (ready_at_or_not pod h c) in
    elim (all_below (λ c. Serves pod c → IsReadyInPod pod h c) each (length pod.containers)) [
      | inl all ↦ inl (λ c serves. all c (serving_within pod c serves) serves)
      | inr not ↦ inr (λ all. not (λ c lt serves. all c serves))
    ]

containers_ready_or_not : (pod : PodSpec) (evicted : Option ℕ) (h : List PodTick)
    → OrNot (AreContainersReady pod evicted h)
containers_ready_or_not pod evicted h =
    let end = some_end pod evicted h in
    all_three (negated (empty_or_not h)) (lives_or_not pod evicted h end.0 end.1) (all_ready_or_not pod h)

pod_ready_or_not : (pod : PodSpec) (evicted : Option ℕ) (h : List PodTick) → OrNot (IsReady pod evicted h)
pod_ready_or_not pod evicted h = both (containers_ready_or_not pod evicted h) (gates_true_or_not pod h)

condition_of : (C : List PodTick → Type 0) → ((h : List PodTick) → OrNot (C h)) → (h : List PodTick)
    → (c : Condition) × IsConditionAfter C h c
condition_of C each h =
    let value = test_of (each h) in
    let since = transition_of h (HoldsAt C h) (so_or_not C each h) in
    (record { value = value.0; since = since.0 }, record { value = value.1; since = since.1 })

some_lifecycle : (pod : PodSpec) (evicted : Option ℕ) (h : List PodTick)
    → (status : Lifecycle) × IsLifecycleOf pod evicted h status
some_lifecycle pod evicted h =
    let phase = some_phase pod evicted h in
    let scheduled = condition_of (λ _. Unit {0}) (λ _. inl tt) h in
    let initialized = condition_of (IsInitialized pod evicted) (initialized_or_not pod evicted) h in
    let containers = condition_of (AreContainersReady pod evicted) (containers_ready_or_not pod evicted) h in
    let ready = condition_of (IsReady pod evicted) (pod_ready_or_not pod evicted) h in (
      record {
        phase = phase.0;
        conditions = record {
          pod_scheduled = scheduled.0;
          initialized = initialized.0;
          containers_ready = containers.0;
          ready = ready.0;
        };
      },
      record {
        phase = phase.1;
        pod_scheduled = scheduled.1;
        initialized = initialized.1;
        containers_ready = containers.1;
        ready = ready.1;
      },
    )

-- the statuses of the containers
status_at : (pod : PodSpec) (evicted : Option ℕ) (h : List PodTick) (k : ℕ) → k < length pod.containers
    → (status : ContainerStatus) × IsContainerStatus pod evicted h k status
status_at pod evicted h k lt =
    let end = some_end pod evicted h in
    let spec = given_at pod.containers k lt in
    let ended : Type 0 = EndsByNode evicted h end.0 in
    let ticks = ticks_of (counted h end.0) k in
    let status = status_of spec.0 ended ticks (by_node_or_not evicted h end.0) in
    let is_shown = of_spec pod k (λ spec. shown.IsShown spec ended ticks status.0) spec.0 spec.1 status.1 in
    (status.0, record { end = end.0; is_end = end.1; shown = is_shown })

some_statuses : (pod : PodSpec) (evicted : Option ℕ) (h : List PodTick)
    → (statuses : List ContainerStatus) × AreStatusesOf pod evicted h statuses
some_statuses pod evicted h =
    let w = list_of (IsContainerStatus pod evicted h) (length pod.containers) (status_at pod evicted h) in
    (w.0, record { as_many = w.1; each = w.2 })

pub some_status : SomeStatus
some_status = record {
  raw_phase = some_raw_phase;
  end = some_end;
  phase = some_phase;
  of_pod = some_lifecycle;
  of_containers = some_statuses;
}
