-- The view that a value keeps of a container, in place of its instances.
use Rattle.std.specs.Prelude.{◌≡◌, ◌↔◌, ℤ, List, Some, IsTrue}
use Rattle.manifest.specs.declared.pod.ContainerSpec.{ContainerSpec}
use Rattle.manifest.specs.declared.policy.Policy.{Policy}
use Rattle.restarts.specs.rule.Own.{WantsRestartBy}
use Rattle.state_diff.specs.rule.Instances.{IsSetUp}
use Rattle.state_diff.specs.state.Differ.{IsNewestSeen}
use Rattle.phase.specs.declared.view.ContainerView.{ContainerView}
use Rattle.phase.specs.declared.restart_view.RestartView.{RestartView}
use Rattle.phase.specs.state.Facts.{exit_code}
use Rattle.containers.specs.rule.Ticks.{ContainerTick, listings}
use Rattle.containers.specs.rule.Probed.{WasStarted}

-- the view shows the container, by its newest instance
pub record IsViewOf (spec : ContainerSpec) (h : List ContainerTick) (view : ContainerView) : Type 0 where
  pub role : view.role ≡ spec.role
  pub newest : IsNewestSeen (listings h) view.seen
  pub set_up : IsTrue view.set_up ↔ IsSetUp (listings h)
  pub was_started : IsTrue view.was_started ↔ WasStarted spec h

-- it also shows whether the container is restarted after the exit of that instance
pub record IsRestartViewOf (policy : Policy) (spec : ContainerSpec) (h : List ContainerTick)
    (container : RestartView) : Type 0 where
  pub view : IsViewOf spec h container.view
  pub wants : (code : ℤ) → exit_code container.view ≡ Some code
      → (IsTrue container.wants_restart ↔ WantsRestartBy policy spec.own_restarts spec.role code)
