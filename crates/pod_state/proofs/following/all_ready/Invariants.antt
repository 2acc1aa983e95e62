use Rattle.std.proofs.Common.{ℕ, ◌<◌, List, slice_index_or}
use Rattle.manifest.specs.declared.pod.PodSpec.{PodSpec}
use Rattle.containers.specs.declared.container.Container.{Container}
use Rattle.pod_state.specs.rule.Pods.{PodTick, Serves, IsReadyInPod}
use Rattle.pod_state.specs.state.Containers.{IsContainerOf}
use Rattle.pod_state.proofs.following.all_ready.Given as goal

abbrev pub invariant-loop-container : goal.invariant-loop-container
invariant-loop-container l =
    (n : ℕ) (e : Container) → n < l.container-index → (pod : PodSpec) (max_restart_delay : ℕ) (h : List PodTick)
    → IsContainerOf pod max_restart_delay h n (slice_index_or l.containers n e) → Serves pod n → IsReadyInPod pod h n
