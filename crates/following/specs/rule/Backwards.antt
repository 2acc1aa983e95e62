-- Whether a tick's listings go back in comparison with earlier ticks. What came before a listing is what its pod's own
-- ticks list.
use Rattle.std.specs.Prelude.{ℕ, ◌+◌, ◌||◌, Bool, false, not, List, [], ◌∷◌, Option, Some, None}
use Rattle.state_diff.specs.rule.Acceptable.{is_acceptable}
use Rattle.observations.specs.declared.container.ContainerObs.{ContainerObs}
use Rattle.observations.specs.rule.Pods.{PodObs}
use Rattle.observations.specs.declared.tick.TickObs.{TickObs}
use Rattle.observations.specs.rule.Observations.{history}

-- of a pod's containers, numbered from n on, some listing may not come after these ticks
abbrev pub some_container_backwards : List TickObs → ℕ → ℕ → List ContainerObs → Bool
some_container_backwards ticks pod n [] = false
some_container_backwards ticks pod n (o ∷ os) =
    not (is_acceptable (history ticks pod n) o.seen) || some_container_backwards ticks pod (n + 1) os

-- of the pods that are shown, numbered from n on, some container's listing may not come after these ticks
abbrev pub some_pod_backwards : List TickObs → ℕ → List (Option PodObs) → Bool
some_pod_backwards ticks n [] = false
some_pod_backwards ticks n (None ∷ shown) = some_pod_backwards ticks (n + 1) shown
some_pod_backwards ticks n (Some pod ∷ shown) =
    some_container_backwards ticks n 0 pod.containers || some_pod_backwards ticks (n + 1) shown

-- some listing of the tick may not come after these ticks
abbrev pub is_backwards : List TickObs → TickObs → Bool
is_backwards ticks tick = some_pod_backwards ticks 0 tick.pods
