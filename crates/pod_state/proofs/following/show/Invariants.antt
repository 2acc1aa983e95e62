use Rattle.std.proofs.Common.{◌≡◌, ℕ, ◌<◌, List, length, slice_index_or}
use Rattle.std.specs.Prelude.{IsTrue}
use Rattle.manifest.specs.declared.pod.PodSpec.{PodSpec}
use Rattle.containers.specs.declared.container.Container.{Container}
use Rattle.containers.specs.declared.status.ContainerStatus.{ContainerStatus}
use Rattle.pod_state.specs.rule.Pods.{PodTick}
use Rattle.pod_state.specs.rule.Containers.{IsShownOf}
use Rattle.pod_state.specs.state.Containers.{IsContainerOf}
use Rattle.pod_state.proofs.following.show.Given as goal

abbrev pub invariant-loop-number : goal.invariant-loop-number
invariant-loop-number l = record {
  as_many : length l.statuses.items ≡ length l.containers;
  each : (n : ℕ) (d : ContainerStatus) (e : Container) → n < l.number
      → (pod : PodSpec) (max_restart_delay : ℕ) (h : List PodTick)
      → IsContainerOf pod max_restart_delay h n (slice_index_or l.containers n e)
      → IsShownOf pod (IsTrue l.is_ended) h n
      (slice_index_or l.statuses.items n d);
}
