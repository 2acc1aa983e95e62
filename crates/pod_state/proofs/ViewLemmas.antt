-- A view says of a container what its ticks say.
use Rattle.std.proofs.Common.{◌≡◌, ◌⊎◌, inl, inr, ℕ, ℤ, ◌+◌, ◌<◌, List, length, get_or, Option}
use Rattle.std.proofs.Common.{Some, None, subst, sym, ◌∙◌, refl, arith}
use Rattle.std.specs.Prelude.{◌↔◌, ◌≢◌, IsSomeAnd, IsTrue, slice_get}
use Rattle.std.proofs.lemmas.List.FromFn.{length-range_with_len, get_or-range_with_len}
use Rattle.manifest.specs.declared.pod.Role.{Role}
use Rattle.manifest.specs.declared.pod.Role.TheVariants.{Init, Sidecar, App}
use Rattle.manifest.specs.declared.pod.ContainerSpec.{ContainerSpec}
use Rattle.manifest.specs.declared.pod.PodSpec.{PodSpec}
use Rattle.phase.specs.declared.phase.Phase.{Phase}
use Rattle.phase.specs.declared.restart_view.RestartView.{RestartView}
use Rattle.phase.specs.state.Restarts.{of_restart_view, Wants}
use Rattle.phase.specs.rule.RawPhase.{AreInitialized}
use Rattle.phase.specs.rule.ByContainer.{IsRawPhaseBy}
use Rattle.phase.proofs.PhaseLemmas.{SameFacts, SameRestarts, AreSame, turned, restarts_turned, lists_turned}
use Rattle.phase.proofs.PhaseLemmas.{raw_same, initialized_same}
use Rattle.histories.proofs.Picked.{flip}
use Rattle.phase.specs.declared.view.ContainerView.{ContainerView}
use Rattle.restarts.specs.rule.Own.{WantsRestartBy}
use Rattle.phase.specs.state.Facts.{exit_code}
use Rattle.containers.specs.rule.Ticks.{ContainerTick}
use Rattle.containers.specs.rule.Probed as probed
use Rattle.containers.specs.state.Shown as shown
use Rattle.containers.proofs.ViewLemmas.{view_code}
use Rattle.pod_state.specs.rule.Pods.{PodTick, ticks_of, OfSpec, Serves, facts, WantsRestart, numbers}
use Rattle.pod_state.specs.rule.Pods.{IsRawPhaseAfter}
use Rattle.pod_state.specs.state.Pods.{IsViewOf, AreViewsOf}
use Rattle.pod_state.proofs.TickLemmas.{implies, whatever}

same_role : (o : Option ContainerSpec) (ticks : List ContainerTick) (view : ContainerView) (role : Role)
    → IsSomeAnd o (λ spec. shown.IsViewOf spec ticks view)
    → (IsSomeAnd o (λ spec. spec.role ≡ role) ↔ (view.role ≡ role))
same_role None ticks view role is = absurd is
same_role (Some spec) ticks view role is = ((λ e. is.role ∙ e), (λ e. sym is.role ∙ e))

same_start : (o : Option ContainerSpec) (ticks : List ContainerTick) (view : ContainerView)
    → IsSomeAnd o (λ spec. shown.IsViewOf spec ticks view)
    → (IsSomeAnd o (λ spec. probed.WasStarted spec ticks) ↔ IsTrue view.was_started)
same_start None ticks view is = absurd is
same_start (Some spec) ticks view is = (is.was_started.1, is.was_started.0)

-- whether it is restarted after its exit
same_wants : (pod : PodSpec) (o : Option ContainerSpec) (ticks : List ContainerTick) (view : RestartView) (code : ℤ)
    → IsSomeAnd o (λ spec. shown.IsRestartViewOf pod.policy spec ticks view)
    → exit_code view.view ≡ Some code
    → (IsTrue view.wants_restart ↔ IsSomeAnd o (λ spec. WantsRestartBy pod.policy spec.own_restarts spec.role code))
same_wants pod None ticks view code is exited = absurd is
same_wants pod (Some spec) ticks view code is exited = is.wants code exited

-- a view's facts are those of the ticks
pub view_facts : (pod : PodSpec) (h : List PodTick) (container : ℕ) (view : RestartView)
    → IsViewOf pod h container view → SameFacts (facts pod h) of_restart_view container view
view_facts pod h container view is =
    let ticks = ticks_of h container in
    let P : ContainerSpec → Type 0 = λ spec. shown.IsViewOf spec ticks view.view in
    let R : ContainerSpec → Type 0 = λ spec. shown.IsRestartViewOf pod.policy spec ticks view in
    let seen = implies pod container R P (λ spec v. v.view) is in
    let code = λ (code : ℤ). whatever pod container P _ (λ spec v. view_code spec ticks view.view v code) seen in
    let set_up = whatever pod container P _ (λ spec v. v.set_up) seen in
    record {
      is = λ role. same_role (slice_get pod.containers container) ticks view.view role seen;
      exited = λ k. ((code k).1, (code k).0);
      set_up = (set_up.1, set_up.0);
      was_started = same_start (slice_get pod.containers container) ticks view.view seen;
    }

-- and so is whether the container is restarted
pub view_restarts : (pod : PodSpec) (h : List PodTick) (container : ℕ) (view : RestartView)
    → IsViewOf pod h container view → SameRestarts (facts pod h) of_restart_view (WantsRestart pod) Wants container view
view_restarts pod h container view is =
    let facts = view_facts pod h container view is in
    record {
      facts = facts;
      wants = λ code exited.
          flip (same_wants pod (slice_get pod.containers container) (ticks_of h container) view code is
          ((facts.exited code).0 exited));
    }

zero_more : (k : ℕ) → 0 + k ≡ k
zero_more k = omega arith

-- and the views' those of all
module _ (R : ℕ → RestartView → Type 0) (pod : PodSpec) (h : List PodTick)
    (one : (n : ℕ) (view : RestartView) → IsViewOf pod h n view → R n view) where
  views_same : (views : List RestartView) → AreViewsOf pod h views → AreSame R (numbers pod) views
  views_same views are =
      let long : length (numbers pod) ≡ length pod.containers = length-range_with_len 0 (length pod.containers) in
      record {
        as_many = long ∙ sym are.as_many;
        each = λ k c d lt.
            let lt' : k < length pod.containers = omega (arith, long) in
            let P : ℕ → Type 0 = λ n. R n (get_or views k d) in
            let here : get_or (numbers pod) k c ≡ k = get_or-range_with_len 0 (length pod.containers) k c lt'
            ∙ zero_more k in
            subst P (sym here) (one k (get_or views k d) (are.each k d lt'));
      }

pub raw_after : (pod : PodSpec) (h : List PodTick) (views : List RestartView) (phase : Phase)
    → AreViewsOf pod h views → IsRawPhaseBy of_restart_view Wants views phase → IsRawPhaseAfter pod h phase
raw_after pod h views phase are raw =
    let R = SameRestarts (facts pod h) of_restart_view (WantsRestart pod) Wants in
    raw_same of_restart_view (facts pod h) Wants (WantsRestart pod) views (numbers pod) phase
    (lists_turned R (SameRestarts of_restart_view (facts pod h) Wants (WantsRestart pod))
    (restarts_turned (facts pod h) of_restart_view (WantsRestart pod) Wants) (numbers pod) views
    (views_same R pod h (view_restarts pod h) views are)) raw

pub initialized_after : (pod : PodSpec) (h : List PodTick) (views : List RestartView) → AreViewsOf pod h views
    → (AreInitialized (facts pod h) (numbers pod) ↔ AreInitialized of_restart_view views)
initialized_after pod h views are =
    let R = SameFacts (facts pod h) of_restart_view in
    let same = views_same R pod h (view_facts pod h) views are in (
      initialized_same (facts pod h) of_restart_view (numbers pod) views same,
      initialized_same of_restart_view (facts pod h) views (numbers pod)
          (lists_turned R (SameFacts of_restart_view (facts pod h)) (turned (facts pod h) of_restart_view) (numbers pod)
          views same),
    )

-- one that serves is no init container, and the other way round
serving_role : (r : Role) → (r ≡ Sidecar) ⊎ (r ≡ App) → r ≢ Init
serving_role r (inl e) i = let x : Sidecar ≡ Init = sym e ∙ i in cc
serving_role r (inr e) i = let x : App ≡ Init = sym e ∙ i in cc

serving : (r : Role) → r ≢ Init → (r ≡ Sidecar) ⊎ (r ≡ App)
serving Init not = absurd (not refl)
serving Sidecar not = inl refl
serving App not = inr refl

no_init : (o : Option ContainerSpec) → IsSomeAnd o (λ spec. spec.role ≡ Sidecar) ⊎ IsSomeAnd o
    (λ spec. spec.role ≡ App) → IsSomeAnd o (λ spec. spec.role ≢ Init)
no_init None (inl p) = absurd p
no_init None (inr p) = absurd p
no_init (Some spec) (inl e) = serving_role spec.role (inl e)
no_init (Some spec) (inr e) = serving_role spec.role (inr e)

some_role : (o : Option ContainerSpec) → IsSomeAnd o (λ spec. spec.role ≢ Init)
    → IsSomeAnd o (λ spec. spec.role ≡ Sidecar) ⊎ IsSomeAnd o (λ spec. spec.role ≡ App)
some_role None p = absurd p
some_role (Some spec) not = serving spec.role not

pub serves_is : (pod : PodSpec) (container : ℕ)
    → (Serves pod container ↔ OfSpec pod container (λ spec. spec.role ≢ Init))
serves_is pod container = (no_init (slice_get pod.containers container), some_role (slice_get pod.containers container))
