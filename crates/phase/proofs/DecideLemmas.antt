-- Each case of the raw phase holds or does not, where each container's part in it does, so one of
-- them is the first that holds.
use Rattle.std.proofs.Common.{◌≡◌, ◌≢◌, inl, inr, ℤ, pos, List, Option, Some, None, refl, ap, subst, sym, ◌∙◌, arith}
use Rattle.std.proofs.Common.{◌⊎◌}
use Rattle.std.proofs.lemmas.Bool.Decides.{Decides-int_eq}
use Rattle.histories.proofs.Decide.{OrNot, of_test, negated, both, either, implied, true_or_not, all_or_not, any_or_not}
use Rattle.manifest.specs.declared.policy.Policy.{Policy}
use Rattle.manifest.specs.declared.policy.Policy.TheVariants.{Always, OnFailure, Never}
use Rattle.manifest.specs.declared.pod.Role.{Role}
use Rattle.manifest.specs.declared.pod.Role.TheVariants.{Init, Sidecar, App}
use Rattle.restarts.specs.rule.Policy.{WantsRestart}
use Rattle.phase.specs.declared.phase.Phase.{Phase}
use Rattle.phase.specs.declared.phase.Phase.TheVariants.{Pending, Running, Succeeded, Failed}
use Rattle.phase.specs.declared.view.ContainerView.{ContainerView}
use Rattle.phase.specs.rule.Facts.{Facts, HasCompleted, HasFailed}
use Rattle.phase.specs.declared.restart_view.RestartView.{RestartView}
use Rattle.phase.specs.state.Facts.{of_view, exit_code}
use Rattle.phase.specs.state.Restarts.{of_restart_view, Wants}
use Rattle.phase.specs.rule.ByContainer.{HasStopped, HasFailedForGood, HaveStopped, IsRawPhaseBy}
use Rattle.phase.proofs.PhaseLemmas.{Cases}
use Rattle.phase.specs.rule.RawPhase.{IsAwaited, HasInitialized, AreInitialized, IsTerminal}
use Rattle.phase.specs.state.PolicyPhase.{HasFinished, IsFailedInit, HaveFinished, IsRawPhase}

-- the codes
pub zero_or_not : (code : ℤ) → OrNot (code ≡ pos 0)
zero_or_not code = of_test _ (Decides-int_eq code (pos 0))

pub completed_or_not : (view : ContainerView) → OrNot (HasCompleted of_view view)
completed_or_not view = there (exit_code view)
  where
    there : (o : Option ℤ) → OrNot (o ≡ Some (pos 0))
    there None = inr (λ e. cc)
    there (Some code) = elim (zero_or_not code) [
      | inl e ↦ inl (ap (λ k. Some k) e)
      | inr n
          ↦ inr (λ e. n (let x : code ≡ pos 0 = grind arith in x))
    ]

pub failed_or_not : (view : ContainerView) → OrNot (HasFailed of_view view)
failed_or_not view = there (exit_code view)
  where
    there : (o : Option ℤ) → OrNot ((code : ℤ) × (o ≡ Some code) × (code ≢ pos 0))
    there None = inr (λ w. let e : None ≡ Some w.0 = w.1 in cc)
    there (Some code) = elim (zero_or_not code) [
      | inl e ↦ inr (λ w. w.2 (let same : Some code ≡ Some w.0 = w.1 in let x : code ≡ w.0 = cc in sym x ∙ e))
      | inr n ↦ inl (code, refl, n)
    ]

pub wants_or_not : (policy : Policy) (role : Role) (code : ℤ) → OrNot (WantsRestart policy role code)
wants_or_not policy Sidecar code = inl tt
wants_or_not Always App code = inl tt
wants_or_not Always Init code = negated (zero_or_not code)
wants_or_not OnFailure App code = negated (zero_or_not code)
wants_or_not OnFailure Init code = negated (zero_or_not code)
wants_or_not Never App code = inr (λ w. w)
wants_or_not Never Init code = inr (λ w. w)

finished_or_not : (policy : Policy) (view : ContainerView) → OrNot (HasFinished of_view policy view)
finished_or_not policy view = there (exit_code view) refl
  where
    there : (o : Option ℤ) → exit_code view ≡ o → OrNot (HasFinished of_view policy view)
    there None e = inr (λ w. let x : exit_code view ≡ Some w.code = w.exited in let y : None ≡ Some w.code =
        sym e ∙ x in cc)
    there (Some code) e = elim (wants_or_not policy App code) [
      | inl wants ↦ inr (λ w.
          let x : exit_code view ≡ Some w.code = w.exited in
          let y : Some code ≡ Some w.code = sym e ∙ x in
          let same : code ≡ w.code = cc in
          let P : ℤ → Type 0 = λ k. WantsRestart policy App k in
          w.wants_none (subst P same wants))
      | inr none ↦ inl (record { code = code; exited = e; wants_none = none })
    ]

never_or_not : (policy : Policy) → OrNot (policy ≡ Never)
never_or_not Never = inl refl
never_or_not Always = inr (λ e. cc)
never_or_not OnFailure = inr (λ e. cc)

pub role_or_not : (wanted role : Role) → OrNot (role ≡ wanted)
role_or_not Init Init = inl refl
role_or_not Sidecar Sidecar = inl refl
role_or_not App App = inl refl
role_or_not Init Sidecar = inr (λ e. cc)
role_or_not Init App = inr (λ e. cc)
role_or_not Sidecar Init = inr (λ e. cc)
role_or_not Sidecar App = inr (λ e. cc)
role_or_not App Init = inr (λ e. cc)
role_or_not App Sidecar = inr (λ e. cc)

-- a container's part in each case holds or does not
pub record IsDecided {C : Type 0} (facts : Facts C) (policy : Policy) (container : C) : Type 0 where
  pub failed_init : OrNot (IsFailedInit facts container)
  pub awaited : OrNot (IsAwaited facts container)
  pub finishes : OrNot (facts.is container App → HasFinished facts policy container)
  pub completes : OrNot (facts.is container App → HasCompleted facts container)
  pub failed_app : OrNot (facts.is container App × HasFailed facts container)

pub awaited_or_not : (view : ContainerView) → OrNot (IsAwaited of_view view)
awaited_or_not view =
    either (both (role_or_not Init view.role) (negated (completed_or_not view)))
    (either (both (role_or_not Sidecar view.role) (negated (true_or_not view.was_started)))
    (both (role_or_not App view.role) (negated (true_or_not view.set_up))))

-- that of a view
view_decided : (policy : Policy) (view : ContainerView) → IsDecided of_view policy view
view_decided policy view = record {
  failed_init = both (role_or_not Init view.role) (failed_or_not view);
  awaited = awaited_or_not view;
  finishes = implied (role_or_not App view.role) (finished_or_not policy view);
  completes = implied (role_or_not App view.role) (completed_or_not view);
  failed_app = both (role_or_not App view.role) (failed_or_not view);
}

-- the first case that holds
some_case : (One Two Three Four : Type 0) → OrNot One → OrNot Two → OrNot Three → OrNot Four
    → (p : Phase) × Cases One Two Three Four p
some_case One Two Three Four (inl one) two three four = (Failed, inl (one, refl))
some_case One Two Three Four (inr not_one) (inl two) three four = (Pending, inr (not_one, inl (two, refl)))
some_case One Two Three Four (inr not_one) (inr not_two) (inl three) four =
    (Succeeded, inr (not_one, inr (not_two, inl (three, refl))))
some_case One Two Three Four (inr not_one) (inr not_two) (inr not_three) (inl four) =
    (Failed, inr (not_one, inr (not_two, inr (not_three, inl (four, refl)))))
some_case One Two Three Four (inr not_one) (inr not_two) (inr not_three) (inr not_four) =
    (Running, inr (not_one, inr (not_two, inr (not_three, inr (not_four, refl)))))

some_raw_phase : {C : Type 0} (facts : Facts C) (policy : Policy)
    → ((container : C) → IsDecided facts policy container)
    → (containers : List C) → (p : Phase) × IsRawPhase facts policy containers p
some_raw_phase facts policy each containers =
    let finished : OrNot (HaveFinished facts policy containers) = all_or_not _ (λ c. (each c).finishes) containers in
    some_case _ _ _ _ (both (never_or_not policy) (any_or_not _ (λ c. (each c).failed_init) containers))
    (any_or_not _ (λ c. (each c).awaited) containers)
    (both finished (all_or_not _ (λ c. (each c).completes) containers))
    (both finished (any_or_not _ (λ c. (each c).failed_app) containers))

pub some_of_views : (policy : Policy) (views : List ContainerView) → (p : Phase) × IsRawPhase of_view policy views p
some_of_views policy views = some_raw_phase of_view policy (view_decided policy) views

-- so too by what each container has of its own
pub stopped_or_not : (container : RestartView) → OrNot (HasStopped of_restart_view Wants container)
stopped_or_not container = there (exit_code container.view) refl
  where
    there : (o : Option ℤ) → exit_code container.view ≡ o → OrNot (HasStopped of_restart_view Wants container)
    there None e = inr (λ w. let x : exit_code container.view ≡ Some w.code = w.exited in let y : None ≡ Some w.code =
        sym e ∙ x in cc)
    there (Some code) e = elim (true_or_not container.wants_restart) [
      | inl wants ↦ inr (λ w. w.wants_none wants)
      | inr none ↦ inl (record { code = code; exited = e; wants_none = none })
    ]

pub for_good_or_not : (container : RestartView) → OrNot (HasFailedForGood of_restart_view Wants container)
for_good_or_not container = elim (both (role_or_not Init container.view.role)
    (both (failed_or_not container.view) (negated (true_or_not container.wants_restart)))) [
      | inl w ↦ inl (record { init = w.0; code = w.1.0.0; exited = w.1.0.1; failed = w.1.0.2; wants_none = w.1.1 })
      | inr not ↦ inr (λ w. not (w.init, ((w.code, w.exited, w.failed), w.wants_none)))
    ]

pub some_by_views : (containers : List RestartView) → (p : Phase) × IsRawPhaseBy of_restart_view Wants containers p
some_by_views containers =
    let role = λ (c : RestartView). role_or_not App c.view.role in
    let stopped : OrNot (HaveStopped of_restart_view Wants containers) =
    all_or_not _ (λ c. implied (role c) (stopped_or_not c)) containers in
    some_case _ _ _ _ (any_or_not _ for_good_or_not containers)
    (any_or_not _ (λ c. awaited_or_not c.view) containers)
    (both stopped (all_or_not _ (λ c. implied (role c) (completed_or_not c.view)) containers))
    (both stopped (any_or_not _ (λ c. both (role c) (failed_or_not c.view)) containers))

-- the pod is initialized, or not
prepared_or_not : (view : ContainerView) → OrNot (HasInitialized of_view view)
prepared_or_not view = elim (implied (role_or_not Init view.role) (completed_or_not view)) [
  | inr not ↦ inr (λ w. not w.init)
  | inl init ↦ elim (implied (role_or_not Sidecar view.role) (true_or_not view.was_started)) [
    | inl sidecar ↦ inl (record { init = init; sidecar = sidecar })
    | inr not ↦ inr (λ w. not w.sidecar)
  ]
]

pub initialized_or_not : (views : List ContainerView) → OrNot (AreInitialized of_view views)
initialized_or_not views = all_or_not (HasInitialized of_view) prepared_or_not views

pub initialized_by_or_not : (containers : List RestartView) → OrNot (AreInitialized of_restart_view containers)
initialized_by_or_not containers = all_or_not (HasInitialized of_restart_view) prepared containers
  where
    prepared : (container : RestartView) → OrNot (HasInitialized of_restart_view container)
    prepared container = elim (prepared_or_not container.view) [
      | inl w ↦ inl (record { init = w.init; sidecar = w.sidecar })
      | inr not ↦ inr (λ w. not (record { init = w.init; sidecar = w.sidecar }))
    ]

-- a phase is terminal or not
pub terminal_cases : (p : Phase) → IsTerminal p ⊎ (IsTerminal p → ⊥)
terminal_cases Succeeded = inl (inl refl)
terminal_cases Failed = inl (inr refl)
terminal_cases Pending = inr (λ w. elim w [ inl e ↦ cc | inr e ↦ cc ])
terminal_cases Running = inr (λ w. elim w [ inl e ↦ cc | inr e ↦ cc ])
