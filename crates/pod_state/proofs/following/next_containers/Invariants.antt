use Rattle.std.proofs.Common.{◌≡◌, ℕ, ◌<◌, List, [], ◌∷◌, ◌++◌, length, slice_index_or}
use Rattle.manifest.specs.declared.pod.PodSpec.{PodSpec}
use Rattle.containers.specs.declared.container.Container.{Container}
use Rattle.pod_state.specs.rule.Pods.{PodTick, pod_tick}
use Rattle.containers.specs.declared.events.ContainerEvents.{ContainerEvents}
use Rattle.pod_state.specs.state.Containers.{IsContainerOf}
use Rattle.pod_state.specs.rule.Events.{IsMadeOf}
use Rattle.pod_state.proofs.following.next_containers.Given as goal

abbrev pub invariant-loop-number : goal.invariant-loop-number
invariant-loop-number l = record {
  as_many : length l.all.items ≡ l.number;
  as_many_made : length l.made.items ≡ l.number;
  each : (n : ℕ) (d e : Container) → n < l.number → (pod : PodSpec) (max_restart_delay : ℕ) (h : List PodTick)
      → IsContainerOf pod max_restart_delay h n (slice_index_or l.containers n e)
      → IsContainerOf pod max_restart_delay (h ++ pod_tick l.observed ∷ []) n (slice_index_or l.all.items n d);
  each_made : (n : ℕ) (d : ContainerEvents) (e : Container) → n < l.number
      → (max_restart_delay : ℕ) (h : List PodTick)
      → IsContainerOf l.pod max_restart_delay h n (slice_index_or l.containers n e)
      → IsMadeOf l.pod max_restart_delay h (pod_tick l.observed) n (slice_index_or l.made.items n d);
}
