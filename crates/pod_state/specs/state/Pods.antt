-- Views that show the containers of a pod.
use Rattle.std.specs.Prelude.{◌≡◌, ℕ, ◌<◌, List, length}
use Rattle.std.specs.Prelude.{slice_index_or}
use Rattle.manifest.specs.declared.pod.PodSpec.{PodSpec}
use Rattle.phase.specs.declared.restart_view.RestartView.{RestartView}
use Rattle.containers.specs.state.Shown as viewed
use Rattle.pod_state.specs.rule.Pods.{PodTick, ticks_of, OfSpec}

-- the view shows the container, by its newest instance, and whether it is restarted
abbrev pub IsViewOf : PodSpec → List PodTick → ℕ → RestartView → Type 0
IsViewOf pod h container view =
    OfSpec pod container (λ spec. viewed.IsRestartViewOf pod.policy spec (ticks_of h container) view)

-- one view for each container
pub record AreViewsOf (pod : PodSpec) (h : List PodTick) (views : List RestartView) : Type 0 where
  pub as_many : length views ≡ length pod.containers
  pub each : (container : ℕ) (d : RestartView) → container < length pod.containers
      → IsViewOf pod h container (slice_index_or views container d)
