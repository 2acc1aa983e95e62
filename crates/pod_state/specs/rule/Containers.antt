-- What a status shows of the containers of a pod (Kubernetes, "Pod Lifecycle", "Container states").
use Rattle.std.specs.Prelude.{◌≡◌, ℕ, ◌<◌, List, length, Option, slice_index_or}
use Rattle.manifest.specs.declared.pod.PodSpec.{PodSpec}
use Rattle.containers.specs.declared.status.ContainerStatus.{ContainerStatus}
use Rattle.containers.specs.rule.Shown.{IsShown}
use Rattle.pod_state.specs.rule.Pods.{PodTick, ticks_of, OfSpec, IsEnd, counted, EndsByNode}

-- what is shown of the container with the number
abbrev pub IsShownOf : PodSpec → Type 0 → List PodTick → ℕ → ContainerStatus → Type 0
IsShownOf pod is_ended h number status =
    OfSpec pod number (λ spec. IsShown spec is_ended (ticks_of h number) status)

-- the status of a container of the pod after these ticks: by those that count
pub record IsContainerStatus (pod : PodSpec) (evicted : Option ℕ) (h : List PodTick) (container : ℕ)
    (status : ContainerStatus) : Type 0 where
  pub end : Option ℕ
  pub is_end : IsEnd pod evicted h end
  pub shown : IsShownOf pod (EndsByNode evicted h end) (counted h end) container status

-- the statuses of all its containers
pub record AreStatusesOf (pod : PodSpec) (evicted : Option ℕ) (h : List PodTick)
    (statuses : List ContainerStatus) : Type 0 where
  pub as_many : length statuses ≡ length pod.containers
  pub each : (number : ℕ) (d : ContainerStatus) → number < length pod.containers
      → IsContainerStatus pod evicted h number (slice_index_or statuses number d)
