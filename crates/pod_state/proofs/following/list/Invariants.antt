use Rattle.std.proofs.Common.{◌≡◌, ℕ, ◌<◌, List, length, slice_index_or}
use Rattle.manifest.specs.declared.pod.PodSpec.{PodSpec}
use Rattle.state_diff.specs.declared.differ.Differ.{Differ}
use Rattle.state_diff.specs.state.Differ.{IsStateOf}
use Rattle.containers.specs.declared.container.Container.{Container}
use Rattle.containers.specs.rule.Ticks.{listings}
use Rattle.pod_state.specs.rule.Pods.{PodTick, ticks_of}
use Rattle.pod_state.specs.state.Containers.{IsContainerOf}
use Rattle.pod_state.proofs.following.list.Given as goal

abbrev pub invariant-loop-number : goal.invariant-loop-number
invariant-loop-number l = record {
  as_many : length l.differs.items ≡ length l.containers;
  each : (n : ℕ) (d : Differ) (e : Container) → n < l.number
      → (pod : PodSpec) (max_restart_delay : ℕ) (h : List PodTick)
      → IsContainerOf pod max_restart_delay h n (slice_index_or l.containers n e)
      → IsStateOf (listings (ticks_of h n)) (slice_index_or l.differs.items n d);
}
