use Rattle.std.proofs.Common.{◌≡◌, ℕ, ◌<◌, List, length, slice_index_or}
use Rattle.phase.specs.declared.restart_view.RestartView.{RestartView}
use Rattle.containers.specs.declared.container.Container.{Container}
use Rattle.pod_state.specs.rule.Pods.{PodTick}
use Rattle.pod_state.specs.state.Pods.{IsViewOf}
use Rattle.pod_state.specs.state.Containers.{IsContainerOf}
use Rattle.pod_state.proofs.following.views_of.Given as goal

abbrev pub invariant-loop-number : goal.invariant-loop-number
invariant-loop-number l = record {
  as_many : length l.views.items ≡ l.number;
  each : (n : ℕ) (d : RestartView) → n < l.number → (e : Container) (max_restart_delay : ℕ) (h : List PodTick)
      → IsContainerOf l.pod max_restart_delay h n (slice_index_or l.containers n e)
      → IsViewOf l.pod h n (slice_index_or l.views.items n d);
}
