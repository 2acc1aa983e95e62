-- The case that gives a pod its phase is one, and gives it.
use Rattle.std.proofs.Common.{◌≡◌, ◌∙◌, inl, inr, ℕ, ◌+◌, ◌<◌, ℤ, pos, List, length, Some, None, refl, ap, sym, subst}
use Rattle.std.proofs.Common.{arith}
use Rattle.std.specs.Prelude.{◌≢◌, All, Any, slice_get, get_or}
use Rattle.std.proofs.lemmas.Option.{same_Some, slice_get_within, get_or_from_slice_get, slice_get_read}
use Rattle.std.proofs.lemmas.Option.{slice_get-get_or}
use Rattle.std.proofs.lemmas.Bool.{cases_lt}
use Rattle.histories.proofs.Decide.{OrNot, both, negated, implied, any_or_not}
use Rattle.histories.proofs.First.{IsFirst-unique}
use Rattle.manifest.specs.declared.pod.Role.TheVariants.{App}
use Rattle.phase.specs.declared.restart_view.RestartView.{RestartView}
use Rattle.phase.specs.rule.Facts.{HasCompleted, HasFailed}
use Rattle.phase.specs.rule.RawPhase.{IsAwaited, IsStarting, AllApps, AnyApp}
use Rattle.phase.specs.rule.ByContainer.{HasStopped, HasFailedForGood, HaveStopped, IsRawPhaseBy}
use Rattle.phase.specs.state.Restarts.{of_restart_view, Wants}
use Rattle.phase.proofs.DecideLemmas.{zero_or_not, stopped_or_not, failed_or_not, role_or_not}
use Rattle.phase_causes.specs.declared.cases.PhaseCase.{PhaseCase}
use Rattle.phase_causes.specs.declared.cases.PhaseCase.TheVariants as case
use Rattle.phase_causes.specs.rule.Cases.{IsAt, IsFirstAt, IsNotStopped, HasBegun, IsPhaseCase, phase_of}

-- by place, some container
pub some_at : {C : Type 0} (P : C → Type 0) (cs : List C) (k : ℕ) → IsAt P cs k → Any P cs
some_at P cs k (c, at, p) = (k, c, slice_get_within cs k c at, get_or_from_slice_get cs k c c at, p)

pub at_some : {C : Type 0} (P : C → Type 0) (cs : List C) → Any P cs → (k : ℕ) × IsAt P cs k
at_some P cs (k, c, lt, e, p) = (k, (c, slice_get_read cs (length cs) k c refl lt (sym e), p))

all_at : {C : Type 0} (P : C → Type 0) (cs : List C) (k : ℕ) (c : C) → All P cs → slice_get cs k ≡ Some c → P c
all_at P cs k c all at = subst P (get_or_from_slice_get cs k c c at) (all k c (slice_get_within cs k c at))

-- P holds of all, where it fails of none
pub none_fails : {C : Type 0} (P : C → Type 0) (cs : List C) → ((c : C) → OrNot (P c))
    → ((k : ℕ) → IsAt (λ c. P c → ⊥) cs k → ⊥) → All P cs
none_fails P cs each none k d lt = elim (each (get_or cs k d)) [
  | inl p ↦ p
  | inr not ↦ absurd (none k (get_or cs k d, slice_get-get_or cs k d lt, not))
]

-- not further on
pub none_further : {C : Type 0} (P : C → Type 0) (cs : List C) (place : ℕ) (c : C)
    → ((u : ℕ) → u < place → IsAt P cs u → ⊥) → slice_get cs place ≡ Some c → (P c → ⊥)
    → (u : ℕ) → u < place + 1 → IsAt P cs u → ⊥
none_further P cs place c none at not u lt (d, there, p) = elim (cases_lt u place) [
  | inl before ↦ none u before (d, there, p)
  | inr ge ↦
      let same : u ≡ place = omega arith in
      not (subst P (same_Some d c (sym there ∙ ap (λ i. slice_get cs i) same ∙ at)) p)
]

-- an app container that completed has not failed
clash : (cs : List RestartView) → AllApps of_restart_view (HasCompleted of_restart_view) cs
    → AnyApp of_restart_view (HasFailed of_restart_view) cs → ⊥
clash cs all some =
    let (k, (c, at, (app, (code, exited, failed)))) =
    at_some (λ c. of_restart_view.is c App × HasFailed of_restart_view c) cs some in
    let completed = all_at (λ c. of_restart_view.is c App → HasCompleted of_restart_view c) cs k c all at app in
    failed (same_Some code (pos 0) (sym exited ∙ completed))

-- a pod whose app containers have stopped has none that hasn't
stays : (cs : List RestartView) (place : ℕ) → HaveStopped of_restart_view Wants cs
    → IsAt (IsNotStopped of_restart_view Wants) cs place → ⊥
stays cs place stopped (c, at, (app, not)) =
    not (all_at (λ c. of_restart_view.is c App → HasStopped of_restart_view Wants c) cs place c stopped at app)

abbrev Is : List RestartView → PhaseCase → Type 0
Is cs one = IsPhaseCase of_restart_view Wants cs one

pub one_case : (cs : List RestartView) (one other : PhaseCase) → Is cs one → Is cs other → one ≡ other
one_case cs (case.InitFailed i) (case.InitFailed j) c d = ap (λ k. case.InitFailed k) (IsFirst-unique _ i j c d)
one_case cs (case.InitFailed i) (case.Awaited j) c d = absurd (d.0 (some_at _ cs i c.holds))
one_case cs (case.InitFailed i) case.Completed c d = absurd (d.0.none_failed (some_at _ cs i c.holds))
one_case cs (case.InitFailed i) case.Stopped c d = absurd (d.0.none_failed (some_at _ cs i c.holds))
one_case cs (case.InitFailed i) (case.Unfinished j) c d = absurd (d.0.none_failed (some_at _ cs i c.holds))
one_case cs (case.Awaited i) (case.InitFailed j) c d = absurd (c.0 (some_at _ cs j d.holds))
one_case cs (case.Awaited i) (case.Awaited j) c d = ap (λ k. case.Awaited k) (IsFirst-unique _ i j c.1 d.1)
one_case cs (case.Awaited i) case.Completed c d = absurd (d.0.none_awaited (some_at _ cs i c.1.holds))
one_case cs (case.Awaited i) case.Stopped c d = absurd (d.0.none_awaited (some_at _ cs i c.1.holds))
one_case cs (case.Awaited i) (case.Unfinished j) c d = absurd (d.0.none_awaited (some_at _ cs i c.1.holds))
one_case cs case.Completed (case.InitFailed j) c d = absurd (c.0.none_failed (some_at _ cs j d.holds))
one_case cs case.Completed (case.Awaited j) c d = absurd (c.0.none_awaited (some_at _ cs j d.1.holds))
one_case cs case.Completed case.Completed c d = refl
one_case cs case.Completed case.Stopped c d = absurd (clash cs c.2 d.2)
one_case cs case.Completed (case.Unfinished j) c d = absurd (stays cs j c.1 d.1.holds)
one_case cs case.Stopped (case.InitFailed j) c d = absurd (c.0.none_failed (some_at _ cs j d.holds))
one_case cs case.Stopped (case.Awaited j) c d = absurd (c.0.none_awaited (some_at _ cs j d.1.holds))
one_case cs case.Stopped case.Completed c d = absurd (clash cs d.2 c.2)
one_case cs case.Stopped case.Stopped c d = refl
one_case cs case.Stopped (case.Unfinished j) c d = absurd (stays cs j c.1 d.1.holds)
one_case cs (case.Unfinished i) (case.InitFailed j) c d = absurd (c.0.none_failed (some_at _ cs j d.holds))
one_case cs (case.Unfinished i) (case.Awaited j) c d = absurd (c.0.none_awaited (some_at _ cs j d.1.holds))
one_case cs (case.Unfinished i) case.Completed c d = absurd (stays cs i d.1 c.1.holds)
one_case cs (case.Unfinished i) case.Stopped c d = absurd (stays cs i d.1 c.1.holds)
one_case cs (case.Unfinished i) (case.Unfinished j) c d = ap (λ k. case.Unfinished k) (IsFirst-unique _ i j c.1 d.1)

pub phase_follows : (cs : List RestartView) (one : PhaseCase) → Is cs one
    → IsRawPhaseBy of_restart_view Wants cs (phase_of one)
phase_follows cs (case.InitFailed i) c = inl (some_at _ cs i c.holds, refl)
phase_follows cs (case.Awaited i) c = inr (c.0, inl (some_at _ cs i c.1.holds, refl))
phase_follows cs case.Completed c = inr (c.0.none_failed, inr (c.0.none_awaited, inl ((c.1, c.2), refl)))
phase_follows cs case.Stopped c =
    inr (c.0.none_failed, inr (c.0.none_awaited, inr ((λ w. clash cs w.1 c.2), inl ((c.1, c.2), refl))))
phase_follows cs (case.Unfinished i) c =
    inr (
      c.0.none_failed,
      inr (
        c.0.none_awaited,
        inr (
          (λ w. stays cs i w.0 c.1.holds),
          inr (
            (λ w. stays cs i w.0 c.1.holds),
            refl,
          ),
        ),
      ),
    )

-- where no app container goes on, all have stopped
pub have_stopped : (cs : List RestartView) → ((k : ℕ) → IsAt (IsNotStopped of_restart_view Wants) cs k → ⊥)
    → HaveStopped of_restart_view Wants cs
have_stopped cs none =
    none_fails (λ c. of_restart_view.is c App → HasStopped of_restart_view Wants c) cs
    (λ c. implied (role_or_not App c.view.role) (stopped_or_not c))
    (λ k (c, at, not). elim (role_or_not App c.view.role) [
      | inl app ↦ none k (c, at, (app, (λ stopped. not (λ _. stopped))))
      | inr other ↦ not (λ app. absurd (other app))
    ])

-- where they have stopped, and not all completed, one has failed
pub some_failed : (cs : List RestartView) → HaveStopped of_restart_view Wants cs
    → (AllApps of_restart_view (HasCompleted of_restart_view) cs → ⊥)
    → AnyApp of_restart_view (HasFailed of_restart_view) cs
some_failed cs stopped not = elim (any_or_not (λ c. of_restart_view.is c App × HasFailed of_restart_view c)
    (λ c. both (role_or_not App c.view.role) (failed_or_not c.view)) cs) [
      | inl some ↦ some
      | inr none ↦ absurd (not (λ k d lt app.
          let at = slice_get-get_or cs k d lt in
          let stop = stopped k d lt app in
          elim (zero_or_not stop.code) [
            | inl zero ↦ subst (λ (z : ℤ). of_restart_view.exited (get_or cs k d) z) zero stop.exited
            | inr failed ↦ absurd (none (some_at (λ c. of_restart_view.is c App × HasFailed of_restart_view c) cs k
                (get_or cs k d, at, (app, (stop.code, stop.exited, failed)))))
          ]))
    ]
