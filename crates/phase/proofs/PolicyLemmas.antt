-- Containers that all go by the pod's policy: the two raw phases are one.
use Rattle.std.proofs.Common.{◌≡◌, ◌≢◌, ℕ, ℤ, pos, ◌<◌, List, length, map, get_or, Some, refl, sym, subst, ap}
use Rattle.std.specs.Prelude.{◌↔◌, All, Any, IsTrue}
use Rattle.std.proofs.lemmas.List.{get_or-map, length-map}
use Rattle.histories.proofs.Picked.{flip}
use Rattle.manifest.specs.declared.policy.Policy.{Policy}
use Rattle.manifest.specs.declared.policy.Policy.TheVariants.{Always, OnFailure, Never}
use Rattle.manifest.specs.declared.pod.Role.{Role}
use Rattle.manifest.specs.declared.pod.Role.TheVariants.{Init, App}
use Rattle.restarts.specs.rule.Policy.{WantsRestart}
use Rattle.phase.specs.declared.phase.Phase.{Phase}
use Rattle.phase.specs.declared.view.ContainerView.{ContainerView}
use Rattle.phase.specs.declared.restart_view.RestartView.{RestartView}
use Rattle.phase.specs.rule.Facts.{HasCompleted, HasFailed}
use Rattle.phase.specs.rule.RawPhase.{IsAwaited}
use Rattle.phase.specs.rule.ByContainer.{HasStopped, HasFailedForGood, IsRawPhaseBy}
use Rattle.phase.specs.state.PolicyPhase.{HasFinished, IsFailedInit, IsRawPhase}
use Rattle.phase.specs.state.Facts.{of_view}
use Rattle.phase.specs.state.Restarts.{of_restart_view, Wants}
use Rattle.phase.specs.state.Laws.{GoesBy, SamePhase}
use Rattle.phase.proofs.PhaseLemmas.{AreSame, All-same, Any-same, lists_turned, cases_map}

-- the view is that of the container, which goes by the policy
record Shows (policy : Policy) (container : RestartView) (view : ContainerView) : Type 0 where
  same : container.view ≡ view
  by : GoesBy policy container

all_show : (policy : Policy) (containers : List RestartView) → All (GoesBy policy) containers
    → AreSame (Shows policy) containers (map (λ (c : RestartView). c.view) containers)
all_show policy containers all = record {
  as_many = sym (length-map containers (λ (c : RestartView). c.view));
  each = λ k c v lt. record {
    same = sym (get_or-map (λ (c : RestartView). c.view) containers k c v lt);
    by = all k c lt;
  };
}

-- only the policy Never leaves an init container that has failed
never_given : (policy : Policy) (code : ℤ) → code ≢ pos 0 → (WantsRestart policy Init code → ⊥) → policy ≡ Never
never_given Always code failed none = absurd (none failed)
never_given OnFailure code failed none = absurd (none failed)
never_given Never code failed none = refl

both_same : (A B A' B' : Type 0) → (A ↔ A') → (B ↔ B') → ((A × B) ↔ (A' × B'))
both_same A B A' B' one two = ((λ w. (one.0 w.0, two.0 w.1)), (λ w. (one.1 w.0, two.1 w.1)))

module _ (policy : Policy) (containers : List RestartView) (p : Phase) (all : All (GoesBy policy) containers) where
  abbrev views : List ContainerView
  views = map (λ (c : RestartView). c.view) containers

  there : AreSame (Shows policy) containers views
  there = all_show policy containers all

  back : AreSame (λ (v : ContainerView) (c : RestartView). Shows policy c v) views containers
  back = lists_turned (Shows policy) (λ v c. Shows policy c v) (λ c v s. s) containers views there

  every : (P : RestartView → Type 0) (Q : ContainerView → Type 0)
      → ((c : RestartView) (v : ContainerView) → Shows policy c v → P c ↔ Q v)
      → (All P containers ↔ All Q views)
  every P Q is = (
    All-same (Shows policy) P Q (λ c v s. (is c v s).0) containers views there,
    All-same (λ v c. Shows policy c v) Q P (λ v c s. (is c v s).1) views containers back,
  )

  some : (P : RestartView → Type 0) (Q : ContainerView → Type 0)
      → ((c : RestartView) (v : ContainerView) → Shows policy c v → P c ↔ Q v)
      → (Any P containers ↔ Any Q views)
  some P Q is = (
    Any-same (Shows policy) P Q (λ c v s. (is c v s).0) containers views there,
    Any-same (λ v c. Shows policy c v) Q P (λ v c s. (is c v s).1) views containers back,
  )

  same_view : (P : ContainerView → Type 0) (c : RestartView) (v : ContainerView) → Shows policy c v → P c.view ↔ P v
  same_view P c v s = (subst P s.same, subst P (sym s.same))

  stops : (c : RestartView) (v : ContainerView) → Shows policy c v
      → (of_restart_view.is c App → HasStopped of_restart_view Wants c)
      ↔ (of_view.is v App → HasFinished of_view policy v)
  stops c v s =
      let Q : ContainerView → Type 0 = λ x. of_view.is x App → HasFinished of_view policy x in
      let R : Role → ℤ → Type 0 = λ r k. WantsRestart policy r k in (
        (λ w. subst Q s.same (λ app.
            let h = w app in
            record {
              code = h.code;
              exited = h.exited;
              wants_none = λ wants. h.wants_none ((s.by h.code h.exited).1 (subst (λ r. R r h.code) (sym app) wants));
            })),
        (λ w app.
            let h = subst Q (sym s.same) w app in
            record {
              code = h.code;
              exited = h.exited;
              wants_none = λ wants. h.wants_none (subst (λ r. R r h.code) app ((s.by h.code h.exited).0 wants));
            }),
      )

  -- a container that has failed for good has the policy Never, and the other way round
  for_good_to : Any (HasFailedForGood of_restart_view Wants) containers
      → (policy ≡ Never) × Any (IsFailedInit of_view) views
  for_good_to any =
      let c = any.1 in
      let h = any.4 in
      let d = all any.0 c any.2 in
      let by : GoesBy policy c = subst (GoesBy policy) any.3 d in
      let R : Role → Type 0 = λ r. WantsRestart policy r h.code in (
        never_given policy h.code h.failed
            (λ wants. h.wants_none ((by h.code h.exited).1 (subst R (sym h.init) wants))),
        Any-same (Shows policy) (HasFailedForGood of_restart_view Wants) (IsFailedInit of_view)
            (λ x v s g. subst (IsFailedInit of_view) s.same (g.init, (g.code, g.exited, g.failed))) containers views
            there any,
      )

  for_good_from : (policy ≡ Never) × Any (IsFailedInit of_view) views
      → Any (HasFailedForGood of_restart_view Wants) containers
  for_good_from w =
      Any-same (λ v c. Shows policy c v) (IsFailedInit of_view) (HasFailedForGood of_restart_view Wants)
      (λ v c s f.
      let g = subst (IsFailedInit of_view) (sym s.same) f in
      let R : Role → Type 0 = λ r. WantsRestart policy r g.1.0 in
      let N : Policy → Type 0 = λ q. WantsRestart q Init g.1.0 in
      record {
        init = g.0;
        code = g.1.0;
        exited = g.1.1;
        failed = g.1.2;
        wants_none = λ wants. subst N w.0 (subst R g.0 ((s.by g.1.0 g.1.1).0 wants));
      }) views containers back w.1

  for_good : Any (HasFailedForGood of_restart_view Wants) containers
      ↔ ((policy ≡ Never) × Any (IsFailedInit of_view) views)
  for_good = (for_good_to, for_good_from)

  phases : IsRawPhaseBy of_restart_view Wants containers p ↔ IsRawPhase of_view policy views p
  phases =
      let stopped = every _ _ stops in
      let completed = every (λ c. of_restart_view.is c App → HasCompleted of_restart_view c)
      (λ v. of_view.is v App → HasCompleted of_view v) (same_view (λ v. of_view.is v App → HasCompleted of_view v)) in
      let failed = some (λ c. of_restart_view.is c App × HasFailed of_restart_view c)
      (λ v. of_view.is v App × HasFailed of_view v) (same_view (λ v. of_view.is v App × HasFailed of_view v)) in
      let awaited = some (IsAwaited of_restart_view) (IsAwaited of_view) (same_view (IsAwaited of_view)) in
      let ended = both_same _ _ _ _ stopped completed in
      let broken = both_same _ _ _ _ stopped failed in (
        cases_map _ _ _ _ _ _ _ _ p for_good awaited ended broken,
        cases_map _ _ _ _ _ _ _ _ p (flip for_good) (flip awaited) (flip ended) (flip broken),
      )

pub same_raw_phase : SamePhase
same_raw_phase policy containers p all = phases policy containers p all
