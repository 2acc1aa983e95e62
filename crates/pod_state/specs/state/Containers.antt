-- The containers of a pod, as its ticks leave what is kept of them.
use Rattle.std.specs.Prelude.{◌≡◌, ℕ, ◌<◌, List, length, Option, option_and_then, slice_get, slice_index_or}
use Rattle.manifest.specs.declared.own_restarts.OwnRestarts.{OwnRestarts}
use Rattle.manifest.specs.declared.pod.PodSpec.{PodSpec}
use Rattle.containers.specs.declared.container.Container.{Container}
use Rattle.containers.specs.declared.status.ContainerStatus.{ContainerStatus}
use Rattle.containers.specs.state.Container.{IsStateOf}
use Rattle.pod_state.specs.rule.Pods.{PodTick, ticks_of, OfSpec, IsEnd, counted}
use Rattle.pod_state.specs.rule.Containers.{IsShownOf}

-- what the container with the number has of its own to decide on its restarts
abbrev pub own_restarts_of : PodSpec → ℕ → Option OwnRestarts
own_restarts_of pod number = option_and_then (λ spec. spec.own_restarts) (slice_get pod.containers number)

-- what is shown of each container
pub record AreShown (pod : PodSpec) (is_ended : Type 0) (h : List PodTick)
    (statuses : List ContainerStatus) : Type 0 where
  pub as_many : length statuses ≡ length pod.containers
  pub each : (number : ℕ) (d : ContainerStatus) → number < length pod.containers
      → IsShownOf pod is_ended h number (slice_index_or statuses number d)

-- the container with the number, as these ticks of its pod leave it, on a node with a maximum restart
-- delay
abbrev pub IsContainerOf : PodSpec → ℕ → List PodTick → ℕ → Container → Type 0
IsContainerOf pod max_restart_delay h number container =
    OfSpec pod number (λ spec. IsStateOf spec max_restart_delay (ticks_of h number) container)

-- all containers, as these ticks leave them
pub record AreContainersOf (pod : PodSpec) (max_restart_delay : ℕ) (h : List PodTick)
    (containers : List Container) : Type 0 where
  pub as_many : length containers ≡ length pod.containers
  pub each : (number : ℕ) (d : Container) → number < length pod.containers
      → IsContainerOf pod max_restart_delay h number (slice_index_or containers number d)

-- the containers as the ticks that count leave them
pub record AreKept (pod : PodSpec) (max_restart_delay : ℕ) (evicted : Option ℕ) (h : List PodTick)
    (containers : List Container) : Type 0 where
  pub end : Option ℕ
  pub is_end : IsEnd pod evicted h end
  pub kept : AreContainersOf pod max_restart_delay (counted h end) containers
