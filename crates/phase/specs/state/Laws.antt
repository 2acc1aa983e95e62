-- Laws of phases, over the definitions alone.
use Rattle.std.specs.Prelude.{◌≡◌, ◌↔◌, ℤ, List, map, All, Some, IsTrue}
use Rattle.manifest.specs.declared.policy.Policy.{Policy}
use Rattle.phase.specs.declared.phase.Phase.{Phase}
use Rattle.phase.specs.declared.view.ContainerView.{ContainerView}
use Rattle.phase.specs.declared.restart_view.RestartView.{RestartView}
use Rattle.restarts.specs.rule.Policy.{WantsRestart}
use Rattle.phase.specs.rule.ByContainer.{IsRawPhaseBy}
use Rattle.phase.specs.state.Facts.{of_view, exit_code}
use Rattle.phase.specs.state.Restarts.{of_restart_view, Wants}
use Rattle.phase.specs.state.PolicyPhase.{IsRawPhase}

-- of each list of views there is one raw phase, and no other
pub record OneRawPhase : Type 0 where
  pub some : (policy : Policy) (views : List ContainerView) → (p : Phase) × IsRawPhase of_view policy views p
  pub no_other : (policy : Policy) (views : List ContainerView) (p q : Phase) → IsRawPhase of_view policy views p
      → IsRawPhase of_view policy views q → p ≡ q

-- the container is restarted after its exit as the pod's policy has it
abbrev pub GoesBy : Policy → RestartView → Type 0
GoesBy policy container = (code : ℤ) → exit_code container.view ≡ Some code
    → (IsTrue container.wants_restart ↔ WantsRestart policy container.view.role code)

-- if all containers go by the pod's policy, the raw phase container by container is the one by that policy
abbrev pub SamePhase : Type 0
SamePhase = (policy : Policy) (containers : List RestartView) (p : Phase) → All (GoesBy policy) containers
    → (IsRawPhaseBy of_restart_view Wants containers p
    ↔ IsRawPhase of_view policy (map (λ (c : RestartView). c.view) containers) p)
