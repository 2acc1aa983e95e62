use Rattle.std.proofs.Common.{◌≡◌, ℕ, ◌<◌, [], length, slice_index_or}
use Rattle.manifest.specs.declared.pod.PodSpec.{PodSpec}
use Rattle.containers.specs.declared.container.Container.{Container}
use Rattle.pod_state.specs.state.Containers.{IsContainerOf}
use Rattle.pod_state.proofs.following.first_containers.Given as goal

abbrev pub invariant-loop-spec : goal.invariant-loop-spec
invariant-loop-spec l = record {
  as_many : length l.containers.items ≡ l.spec-index;
  each : (n : ℕ) (d : Container) → n < l.spec-index → (pod : PodSpec) → pod.containers ≡ l.specs
      → IsContainerOf pod l.max_restart_delay [] n (slice_index_or l.containers.items n d);
}
