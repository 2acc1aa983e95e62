-- A view, and what is shown of a container.
use Rattle.std.proofs.Common.{◌≡◌, ◌∙◌, inl, inr, ℕ, ℤ, Bool, List, Option, Some, None, refl, subst, sym}
use Rattle.std.specs.Prelude.{◌↔◌, IsSomeAnd, IsTrue, option_and_then}
use Rattle.state_diff.specs.declared.seen.Seen.{Seen}
use Rattle.state_diff.specs.declared.seen.CriState.{CriState}
use Rattle.state_diff.specs.declared.seen.CriState.TheVariants.{Created, Running as IsRunning, Exited, Unknown}
use Rattle.state_diff.specs.rule.Instances.{Tick, IsNewest, IsState, IsExitCode}
use Rattle.state_diff.specs.state.Differ.{IsNewestSeen}
use Rattle.state_diff.proofs.Listings.{exited_code}
use Rattle.state_diff.proofs.Places.{state_known}
use Rattle.state_diff.proofs.Unique.{IsNewest-unique, IsState-unique, IsExitCode-unique}
use Rattle.manifest.specs.declared.pod.ContainerSpec.{ContainerSpec}
use Rattle.manifest.specs.declared.policy.Policy.{Policy}
use Rattle.manifest.specs.declared.own_restarts.OwnRestarts.{OwnRestarts}
use Rattle.restarts.specs.rule.Own.{WantsRestartBy}
use Rattle.manifest.specs.declared.pod.Role.{Role}
use Rattle.manifest.specs.declared.pod.Role.TheVariants.{Init}
use Rattle.phase.specs.declared.container.ContainerState.{ContainerState}
use Rattle.phase.specs.declared.view.ContainerView.{ContainerView}
use Rattle.phase.specs.state.Facts.{exit_code}
use Rattle.phase.specs.state.Views.{shown_as, state_shown, restarts_of}
use Rattle.containers.specs.declared.status.ContainerStatus.{ContainerStatus}
use Rattle.containers.specs.rule.Ticks.{ContainerTick, listings}
use Rattle.containers.specs.rule.Probed.{Serves, IsStarted, IsContainerReady}
use Rattle.containers.specs.rule.Shown.{IsContainerState, IsRestarts, HasExitedWith, IsShown}
use Rattle.containers.specs.state.Shown.{IsViewOf, IsRestartViewOf}

-- the state that a view shows
pub state_is : (h : List Tick) (o : Option Seen) → IsNewestSeen h o → IsContainerState h (state_shown o)
state_is h None none = inl (none, refl)
state_is h (Some s) is = there s.state is.state
  where
    there : (state : CriState) → IsState h s.attempt state → IsContainerState h (shown_as state)
    there Created st = inr (s.attempt, is.newest, st)
    there IsRunning st = inr (s.attempt, is.newest, st)
    there Exited st = inr (s.attempt, is.newest, st)
    there Unknown (inl w) = let e : Unknown ≡ Exited = w.1 in cc
    there Unknown (inr (none, inl (t, k))) = absurd (state_known h s.attempt Unknown t k refl)
    there Unknown (inr (none, inr w)) = let e : Unknown ≡ Created = w.1 in cc

-- the restarts that it shows
pub restarts_is : (h : List Tick) (o : Option Seen) → IsNewestSeen h o → IsRestarts h (restarts_of o)
restarts_is h None none = inl (none, refl)
restarts_is h (Some s) is = inr is.newest

-- the code that it shows
pub given : (h : List Tick) (o : Option Seen) → IsNewestSeen h o → (code : ℤ) → option_and_then (λ seen. seen.code)
    o ≡ Some code → HasExitedWith h code
given h None none code e = absurd (cc)
given h (Some s) is code e = (s.attempt, is.newest, is.code code e)

pub coded : (h : List Tick) (o : Option Seen) → IsNewestSeen h o → (code : ℤ) → HasExitedWith h code
    → option_and_then (λ seen. seen.code) o ≡ Some code
coded h None none code (a, n, e) = absurd (none a n.listed.0 n.listed.1)
coded h (Some s) is code (a, n, e) =
    let same : a ≡ s.attempt = IsNewest-unique h a s.attempt n is.newest in
    let P : ℕ → Type 0 = λ b. IsExitCode h b code in
    let mine : IsExitCode h s.attempt code = subst P same e in
    elim (is.state) [
      | inl w ↦
          let k = exited_code s.state s.code s.code_given w.1 in
          let one : k.0 ≡ code = IsExitCode-unique h s.attempt k.0 code (is.code k.0 k.1) mine in
          let Q : ℤ → Type 0 = λ j. s.code ≡ Some j in
          subst Q one k.1
      | inr w ↦ absurd (w.0 mine.0 mine.1)
    ]

pub view_code : (spec : ContainerSpec) (h : List ContainerTick) (view : ContainerView) → IsViewOf spec h view
    → (code : ℤ)
    → ((exit_code view ≡ Some code) ↔ HasExitedWith (listings h) code)
view_code spec h view is code =
    (given (listings h) view.seen is.newest code, coded (listings h) view.seen is.newest code)

-- whether its instance is running
pub seen_runs : (h : List Tick) (o : Option Seen) → IsNewestSeen h o
    → (((a : ℕ) × IsNewest h a × IsState h a IsRunning) ↔ IsSomeAnd o (λ seen. seen.state ≡ IsRunning))
seen_runs h o is = (there o is, back o is)
  where
    there : (o : Option Seen) → IsNewestSeen h o → (a : ℕ) × IsNewest h a × IsState h a IsRunning
        → IsSomeAnd o (λ seen. seen.state ≡ IsRunning)
    there None none (a, n, e) = absurd (none a n.listed.0 n.listed.1)
    there (Some s) is (a, n, e) =
        let same : a ≡ s.attempt = IsNewest-unique h a s.attempt n is.newest in
        let P : ℕ → Type 0 = λ b. IsState h b IsRunning in
        IsState-unique h s.attempt s.state IsRunning is.state (subst P same e)

    back : (o : Option Seen) → IsNewestSeen h o → IsSomeAnd o (λ seen. seen.state ≡ IsRunning) → (a : ℕ)
        × IsNewest h a × IsState h a IsRunning
    back None none q = absurd q
    back (Some s) is q = let P : CriState → Type 0 = λ v. IsState h s.attempt v in
        (s.attempt, is.newest, subst P q is.state)

-- the container serves by its role and its newest instance
pub serves_by : (spec : ContainerSpec) (h : List ContainerTick) (role : Role) (o : Option Seen) (b : Bool)
    → role ≡ spec.role → IsNewestSeen (listings h) o
    → (IsTrue b ↔ ((role ≡ Init → ⊥) × IsSomeAnd o (λ s. s.state ≡ IsRunning)))
    → (IsTrue b ↔ ((a : ℕ) × Serves spec h a))
serves_by spec h role o b same is up =
    let runs = seen_runs (listings h) o is in
    let P : Role → Type 0 = λ r. r ≡ Init → ⊥ in (
      (λ e.
          let w = up.0 e in
          let r = runs.1 w.1 in
          (r.0, record { role = subst P same w.0; newest = r.1; runs = r.2 })),
      (λ w. up.1 (subst P (sym same) w.1.role, runs.0 (w.0, w.1.newest, w.1.runs))),
    )

-- what is shown
pub status_is : (spec : ContainerSpec) (h : List ContainerTick) (view : ContainerView)
    (evicted is_ready is_started : Bool) (status : ContainerStatus) → IsViewOf spec h view
    → status.state ≡ state_shown view.seen → status.code ≡ exit_code view → status.restarts ≡ restarts_of view.seen
    → (IsTrue is_ready ↔ IsContainerReady spec h) → (IsTrue is_started ↔ IsStarted spec h)
    → (IsTrue status.ready ↔ ((IsTrue evicted → ⊥) × IsTrue is_ready))
    → (IsTrue status.started ↔ ((IsTrue evicted → ⊥) × IsTrue is_started))
    → IsShown spec (IsTrue evicted) h status
status_is spec h view evicted is_ready is_started status is state code restarts ready started shows_ready
    shows_started =
    let P : ContainerState → Type 0 = λ s. IsContainerState (listings h) s in
    let Q : Option ℤ → Type 0 = λ o. (k : ℤ) → ((o ≡ Some k) ↔ HasExitedWith (listings h) k) in
    let R : ℕ → Type 0 = λ n. IsRestarts (listings h) n in
    record {
      state = subst P (sym state) (state_is (listings h) view.seen is.newest);
      code = subst Q (sym code)
          (λ k. (given (listings h) view.seen is.newest k, coded (listings h) view.seen is.newest k));
      restarts = subst R (sym restarts) (restarts_is (listings h) view.seen is.newest);
      ready = ((λ e. let w = shows_ready.0 e in (w.0, ready.0 w.1)), (λ w. shows_ready.1 (w.0, ready.1 w.1)));
      started = ((λ e. let w = shows_started.0 e in (w.0, started.0 w.1)), (λ w. shows_started.1 (w.0, started.1 w.1)));
    }

-- the container with whether it is restarted
pub restart_view_is : (policy : Policy) (spec : ContainerSpec) (h : List ContainerTick) (own : Option OwnRestarts)
    (view : ContainerView) (code : Option ℤ) (wants : Bool) → own ≡ spec.own_restarts → IsViewOf spec h view
    → code ≡ exit_code view
    → ((n : ℤ) → code ≡ Some n → (IsTrue wants ↔ WantsRestartBy policy own view.role n))
    → IsRestartViewOf policy spec h (record { view = view; wants_restart = wants })
restart_view_is policy spec h own view code wants has is same after = record {
  view = is;
  wants = λ n exited.
      let by = after n (same ∙ exited) in
      let R : Role → Type 0 = λ r. IsTrue wants ↔ WantsRestartBy policy own r n in
      let O : Option OwnRestarts → Type 0 = λ x. IsTrue wants ↔ WantsRestartBy policy x spec.role n in
      subst O has (subst R is.role by);
}
