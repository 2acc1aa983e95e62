-- Which listings of a pod's containers may come after these ticks, whether it has ended or not.
use Rattle.std.specs.Prelude.{◌≡◌, ℕ, ◌<◌, List, length, Option, slice_get, slice_index_or, unwrap_or}
use Rattle.manifest.specs.declared.pod.PodSpec.{PodSpec}
use Rattle.observations.specs.declared.container.ContainerObs.{ContainerObs}
use Rattle.state_diff.specs.declared.seen.Seen.{Seen}
use Rattle.state_diff.specs.declared.differ.Differ.{Differ}
use Rattle.state_diff.specs.state.Instances.{IsAcceptable}
use Rattle.state_diff.specs.state.Differ.{IsStateOf}
use Rattle.containers.specs.rule.Ticks.{listings}
use Rattle.pod_state.specs.rule.Pods.{PodTick, ticks_of, unseen}

-- what is listed of the container with the number
abbrev pub listed_in : List ContainerObs → ℕ → Option Seen
listed_in shown number = (unwrap_or (slice_get shown number) unseen).seen

-- each container's listing may come after its earlier ones
abbrev pub AreAcceptable : PodSpec → List PodTick → List ContainerObs → Type 0
AreAcceptable pod h shown =
    (number : ℕ) → number < length pod.containers → IsAcceptable (listings (ticks_of h number)) (listed_in shown number)

-- one differ for each container, as these ticks leave it
pub record AreListed (pod : PodSpec) (h : List PodTick) (differs : List Differ) : Type 0 where
  pub as_many : length differs ≡ length pod.containers
  pub each : (number : ℕ) (d : Differ) → number < length differs
      → IsStateOf (listings (ticks_of h number)) (slice_index_or differs number d)
