-- The requests and limits that a pod's containers have by now: those of the manifest, until a tick resizes the
-- container (Kubernetes, "Pod Lifecycle", "Pod resize"; that ticks after the pod's end don't count is this profile's
-- rule).
use Rattle.std.specs.Prelude.{◌≡◌, ℕ, List, length, Option, Some, unwrap_or, slice_get}
use Rattle.manifest.specs.declared.pod.ContainerSpec.{ContainerSpec}
use Rattle.manifest.specs.declared.pod.PodSpec.{PodSpec}
use Rattle.manifest.specs.rule.Resources.{Resources}
use Rattle.observations.specs.rule.Resizes.{resized_to}
use Rattle.pod_state.specs.rule.Pods.{PodTick, IsEnd, counted}
use Rattle.pod_piece.specs.rule.Usage.{IsLastSaid}

-- the requests and limits of the container with the number, of which the manifest has these first ones: those that it
-- has by the last tick that resizes it
pub record IsResizedTo (h : List PodTick) (number : ℕ) (first now : Resources) : Type 0 where
  pub last : Option Resources
  pub is_last : IsLastSaid (λ entry. resized_to entry.resized number) h last
  pub now_is : now ≡ unwrap_or last first

-- the requests and limits of each container, by number
pub record AreResized (h : List PodTick) (containers : List ContainerSpec) (resources : List Resources)
    : Type 0 where
  pub as_many : length resources ≡ length containers
  pub each : (number : ℕ) (container : ContainerSpec) (now : Resources) → slice_get containers number ≡ Some container
      → slice_get resources number ≡ Some now → IsResizedTo h number container.resources now

-- those of a pod's containers, by the ticks that count
pub record AreResourcesOf (pod : PodSpec) (evicted : Option ℕ) (h : List PodTick) (resources : List Resources)
    : Type 0 where
  pub end : Option ℕ
  pub is_end : IsEnd pod evicted h end
  pub resized : AreResized (counted h end) pod.containers resources
