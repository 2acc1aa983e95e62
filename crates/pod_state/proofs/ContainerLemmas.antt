-- The containers of a pod, as its ticks leave them.
use Rattle.std.proofs.Common.{◌≡◌, inl, inr, ℕ, ◌+◌, ◌<◌, Bool, List, [], ◌∷◌, ◌++◌, length, get_or, Option, Some}
use Rattle.std.proofs.Common.{None, refl, ap, subst, sym, ◌∙◌, arith}
use Rattle.std.proofs.lemmas.Bool.{cases_lt}
use Rattle.std.specs.Prelude.{◌↔◌, ◌≢◌, IsSomeAnd, IsTrue, slice_get, unwrap_or, option_and_then}
use Rattle.histories.specs.rule.Histories.{recorded}
use Rattle.histories.proofs.Items.{any_default}
use Rattle.histories.proofs.Places.{length-project}
use Rattle.manifest.specs.declared.pod.ContainerSpec.{ContainerSpec}
use Rattle.manifest.specs.declared.pod.PodSpec.{PodSpec}
use Rattle.manifest.specs.declared.pod.Role.TheVariants.{Init}
use Rattle.observations.specs.rule.Pods.{PodObs}
use Rattle.phase.specs.declared.restart_view.RestartView.{RestartView}
use Rattle.containers.specs.declared.container.Container.{Container}
use Rattle.containers.specs.rule.Ticks.{ContainerTick, listings}
use Rattle.state_diff.specs.declared.seen.Seen.{Seen}
use Rattle.state_diff.specs.state.Instances.{IsAcceptable}
use Rattle.containers.specs.state.Container.{IsStateOf}
use Rattle.containers.specs.declared.events.ContainerEvents.{ContainerEvents}
use Rattle.containers.specs.rule.Events.{AreEvents}
use Rattle.manifest.specs.declared.own_restarts.OwnRestarts.{OwnRestarts}
use Rattle.containers.specs.rule.Probed as probed
use Rattle.containers.specs.rule.Shown as shown
use Rattle.containers.specs.state.Shown as viewed
use Rattle.containers.specs.declared.status.ContainerStatus.{ContainerStatus}
use Rattle.pod_state.specs.rule.Events.{IsMadeOf}
use Rattle.pod_state.specs.rule.Pods.{PodEntry, PodTick, pod_tick, ticks_of, unseen, Serves, IsReadyInPod}
use Rattle.pod_state.specs.state.Pods.{IsViewOf}
use Rattle.pod_state.specs.rule.Pods.{IsEnd, counted, EndsByNode}
use Rattle.pod_state.specs.rule.Containers.{IsShownOf, AreStatusesOf}
use Rattle.pod_state.specs.state.Containers.{AreShown, IsContainerOf, AreContainersOf, AreKept, own_restarts_of}
use Rattle.pod_state.proofs.EndLemmas.{IsEnd-unique}
use Rattle.pod_state.proofs.TickLemmas.{ticks_more, of_spec, implies, implied_at, within}
use Rattle.pod_state.proofs.ViewLemmas.{serves_is}

-- one that no tick has shown
pub first_is : (pod : PodSpec) (max_restart_delay n : ℕ) (spec : ContainerSpec) (container : Container)
    → slice_get pod.containers n ≡ Some spec → IsStateOf spec max_restart_delay [] container
    → IsContainerOf pod max_restart_delay [] n container
first_is pod max_restart_delay n spec container at is =
    of_spec pod n (λ s. IsStateOf s max_restart_delay [] container) spec at is

-- after one more tick
pub next_is : (pod : PodSpec) (max_restart_delay n : ℕ) (h : List PodTick) (observed : PodObs)
    (before after : Container)
    → ((spec : ContainerSpec) (k : List ContainerTick) → IsStateOf spec max_restart_delay k before
    → IsStateOf spec max_restart_delay
    (k ++ recorded observed.at (unwrap_or (slice_get observed.containers n) unseen) ∷ [])
    after)
    → IsContainerOf pod max_restart_delay h n before
    → IsContainerOf pod max_restart_delay (h ++ pod_tick observed ∷ []) n after
next_is pod max_restart_delay n h observed before after step is =
    let more = sym (ticks_more h (pod_tick observed) n) in
    implies pod n (λ spec. IsStateOf spec max_restart_delay (ticks_of h n) before)
    (λ spec. IsStateOf spec max_restart_delay (ticks_of (h ++ pod_tick observed ∷ []) n) after)
    (λ spec st. subst (λ (k : List ContainerTick). IsStateOf spec max_restart_delay k after) more
    (step spec (ticks_of h n) st)) is

-- what a container has of its own, by its number
own_given : (pod : PodSpec) (n : ℕ) (own : Option OwnRestarts) (spec : ContainerSpec) → own ≡ own_restarts_of pod n
    → slice_get pod.containers n ≡ Some spec → own ≡ spec.own_restarts
own_given pod n own spec is at = is ∙ ap (λ (o : Option ContainerSpec). option_and_then (λ s. s.own_restarts) o) at

-- and what the tick makes of it
pub made_is : (pod : PodSpec) (max_restart_delay n : ℕ) (h : List PodTick) (observed : PodObs)
    (own : Option OwnRestarts)
    (before : Container) (made : ContainerEvents) → own ≡ own_restarts_of pod n
    → ((spec : ContainerSpec) (k : List ContainerTick) → own ≡ spec.own_restarts
    → IsStateOf spec max_restart_delay k before
    → AreEvents pod.policy max_restart_delay spec
    (k ++ recorded observed.at (unwrap_or (slice_get observed.containers n) unseen) ∷ []) (length k) made)
    → IsContainerOf pod max_restart_delay h n before → IsMadeOf pod max_restart_delay h (pod_tick observed) n made
made_is pod max_restart_delay n h observed own before made has step is =
    let more = sym (ticks_more h (pod_tick observed) n) in
    let long = length-project (λ (entry : PodEntry). unwrap_or (slice_get entry.containers n) unseen) h in
    let Q : ContainerSpec → Type 0 = λ spec. AreEvents pod.policy max_restart_delay spec
    (ticks_of (h ++ pod_tick observed ∷ []) n) (length h) made in
    implied_at pod n (λ spec. IsStateOf spec max_restart_delay (ticks_of h n) before) Q
    (λ spec at st.
    subst (λ (t : ℕ). AreEvents pod.policy max_restart_delay spec (ticks_of (h ++ pod_tick observed ∷ []) n) t made)
    long
    (subst (λ (k : List ContainerTick). AreEvents pod.policy max_restart_delay spec k (length (ticks_of h n)) made) more
    (step spec (ticks_of h n) (own_given pod n own spec has at) st))) is

-- as a view shows it
pub view_is : (pod : PodSpec) (max_restart_delay n : ℕ) (h : List PodTick) (own : Option OwnRestarts)
    (container : Container) (view : RestartView) → own ≡ own_restarts_of pod n
    → ((spec : ContainerSpec) (k : List ContainerTick) → own ≡ spec.own_restarts
    → IsStateOf spec max_restart_delay k container → viewed.IsRestartViewOf pod.policy spec k view)
    → IsContainerOf pod max_restart_delay h n container → IsViewOf pod h n view
view_is pod max_restart_delay n h own container view has shows is =
    implied_at pod n (λ spec. IsStateOf spec max_restart_delay (ticks_of h n) container)
    (λ spec. viewed.IsRestartViewOf pod.policy spec (ticks_of h n) view)
    (λ spec at st. shows spec (ticks_of h n) (own_given pod n own spec has at) st) is

-- whether it is ready if it serves
pub serving_ready : (pod : PodSpec) (max_restart_delay n : ℕ) (h : List PodTick) (container : Container) (ready : Bool)
    → ((spec : ContainerSpec) (k : List ContainerTick) → IsStateOf spec max_restart_delay k container
    → (IsTrue ready ↔ (spec.role ≢ Init → probed.IsContainerReady spec k)))
    → IsContainerOf pod max_restart_delay h n container → (IsTrue ready ↔ (Serves pod n → IsReadyInPod pod h n))
serving_ready pod max_restart_delay n h container ready says is = there (slice_get pod.containers n) refl is
  where
    there : (o : Option ContainerSpec) → slice_get pod.containers n ≡ o
        → IsSomeAnd o (λ spec. IsStateOf spec max_restart_delay (ticks_of h n) container)
        → (IsTrue ready ↔ (Serves pod n → IsReadyInPod pod h n))
    there None e st = absurd st
    there (Some spec) e st =
        let w = says spec (ticks_of h n) st in
        let R : ContainerSpec → Type 0 = λ s. probed.IsContainerReady s (ticks_of h n) in
        let N : ContainerSpec → Type 0 = λ s. s.role ≢ Init in (
          (λ t serves. of_spec pod n R spec e
              (w.0 t (subst (λ (o : Option ContainerSpec). IsSomeAnd o N) e ((serves_is pod n).0 serves)))),
          (λ f. w.1 (λ not. subst (λ (o : Option ContainerSpec). IsSomeAnd o R) e
              (f ((serves_is pod n).1 (of_spec pod n N spec e not))))),
        )

-- as a status shows it
pub shown_is : (pod : PodSpec) (max_restart_delay n : ℕ) (h : List PodTick) (container : Container)
    (is_ended : Type 0)
    (status : ContainerStatus)
    → ((spec : ContainerSpec) (k : List ContainerTick) → IsStateOf spec max_restart_delay k container
    → shown.IsShown spec is_ended k status)
    → IsContainerOf pod max_restart_delay h n container → IsShownOf pod is_ended h n status
shown_is pod max_restart_delay n h container is_ended status shows is =
    implies pod n (λ spec. IsStateOf spec max_restart_delay (ticks_of h n) container)
    (λ spec. shown.IsShown spec is_ended (ticks_of h n) status) (λ spec st. shows spec (ticks_of h n) st) is

-- two ways to say that the pod was evicted
evicted_same : (E F : Type 0) (spec : ContainerSpec) (k : List ContainerTick) (status : ContainerStatus) → (E ↔ F)
    → shown.IsShown spec E k status → shown.IsShown spec F k status
evicted_same E F spec k status same is = record {
  state = is.state;
  code = is.code;
  restarts = is.restarts;
  ready = ((λ t. let w = is.ready.0 t in ((λ f. w.0 (same.1 f)), w.1)), (λ w. is.ready.1 ((λ e. w.0 (same.0 e)), w.1)));
  started = (
    (λ t. let w = is.started.0 t in ((λ f. w.0 (same.1 f)), w.1)),
    (λ w. is.started.1 ((λ e. w.0 (same.0 e)), w.1)),
  );
}

-- the statuses of a pod, of its containers as they are kept
pub statuses_are : (pod : PodSpec) (max_restart_delay : ℕ) (evicted end : Option ℕ) (h : List PodTick)
    (containers : List Container) (is_ended : Type 0) (statuses : List ContainerStatus)
    → IsEnd pod evicted h end → (is_ended ↔ EndsByNode evicted h end)
    → AreKept pod max_restart_delay evicted h containers
    → ((k : List PodTick) → AreContainersOf pod max_restart_delay k containers → AreShown pod is_ended k statuses)
    → AreStatusesOf pod evicted h statuses
statuses_are pod max_restart_delay evicted end h containers is_ended statuses is same kept shows =
    let P : Option ℕ → Type 0 = λ o. AreContainersOf pod max_restart_delay (counted h o) containers in
    let are = shows (counted h end) (subst P (IsEnd-unique pod evicted h kept.end end kept.is_end is) kept.kept) in
    record {
      as_many = are.as_many;
      each = λ n d lt. record {
        end = end;
        is_end = is;
        shown = implies pod n _ _ (λ spec s. evicted_same is_ended (EndsByNode evicted h end) spec _ _ same s)
            (are.each n d lt);
      };
    }

-- the container at a place of a list
pub item_at : (pod : PodSpec) (max_restart_delay : ℕ) (h : List PodTick) (n : ℕ) (containers : List Container)
    (container e : Container) → n < length containers → container ≡ get_or containers n container
    → IsContainerOf pod max_restart_delay h n (get_or containers n e)
    → IsContainerOf pod max_restart_delay h n container
item_at pod max_restart_delay h n containers container e lt is of =
    subst (λ (x : Container). IsContainerOf pod max_restart_delay h n x) (any_default containers n e container lt
    ∙ sym is) of

-- what holds of what stands at the place, whatever stands for an item that is missing
pub item_at_any : (containers : List Container) (n : ℕ) (container : Container) → n < length containers
    → container ≡ get_or containers n container
    → (P : Container → Type 0) (e : Container) → P (get_or containers n e) → P container
item_at_any containers n container lt is P e of = subst P (any_default containers n e container lt ∙ sym is) of

-- what holds of a container after all its ticks, whatever its specification is
pub of_container : (pod : PodSpec) (max_restart_delay n : ℕ) (h : List PodTick) (container : Container)
    (Q : List ContainerTick → Type 0)
    → ((spec : ContainerSpec) (k : List ContainerTick) → IsStateOf spec max_restart_delay k container → Q k)
    → IsContainerOf pod max_restart_delay h n container → Q (ticks_of h n)
of_container pod max_restart_delay n h container Q says is = there (slice_get pod.containers n) is
  where
    there : (o : Option ContainerSpec)
        → IsSomeAnd o (λ spec. IsStateOf spec max_restart_delay (ticks_of h n) container) → Q (ticks_of h n)
    there None st = absurd st
    there (Some spec) st = says spec (ticks_of h n) st

-- whether a listing may come next, of a container in its place
pub acceptable_is : (pod : PodSpec) (max_restart_delay : ℕ) (h : List PodTick) (n : ℕ) (containers : List Container)
    (container : Container) (may : Bool) (seen : Option Seen) → n < length containers
    → container ≡ get_or containers n container → AreContainersOf pod max_restart_delay h containers
    → ((spec : ContainerSpec) (k : List ContainerTick) → IsStateOf spec max_restart_delay k container
    → (IsTrue may ↔ IsAcceptable (listings k) seen)) → (IsTrue may ↔ IsAcceptable (listings (ticks_of h n)) seen)
acceptable_is pod max_restart_delay h n containers container may seen lt is are says =
    of_container pod max_restart_delay n h container (λ k. IsTrue may ↔ IsAcceptable (listings k) seen) says
    (item_at pod max_restart_delay h n containers container container lt is
    (are.each n container (omega (arith, lt, are.as_many))))

-- what holds below a place, and at it
pub all_next : (P : ℕ → Type 0) (i : ℕ) → ((n : ℕ) → n < i → P n) → P i → (n : ℕ) → n < i + 1 → P n
all_next P i before here n lt = elim (cases_lt n i) [
  | inl below ↦ before n below
  | inr above ↦ subst P (let e : i ≡ n = omega (arith, lt, above) in e) here
]

-- one that serves is one of the pod's
pub serving_within : (pod : PodSpec) (n : ℕ) → Serves pod n → n < length pod.containers
serving_within pod n serves = within pod n (λ spec. spec.role ≢ Init) ((serves_is pod n).0 serves)
