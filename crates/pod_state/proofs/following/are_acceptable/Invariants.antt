use Rattle.std.proofs.Common.{ℕ, ◌<◌, List}
use Rattle.manifest.specs.declared.pod.PodSpec.{PodSpec}
use Rattle.containers.specs.rule.Ticks.{listings}
use Rattle.state_diff.specs.state.Instances.{IsAcceptable}
use Rattle.pod_state.specs.rule.Pods.{PodTick, ticks_of}
use Rattle.pod_state.specs.state.Containers.{AreContainersOf}
use Rattle.pod_state.specs.state.Listings.{listed_in}
use Rattle.pod_state.proofs.following.are_acceptable.Given as goal

abbrev pub invariant-loop-number : goal.invariant-loop-number
invariant-loop-number l = (pod : PodSpec) (max_restart_delay : ℕ) (h : List PodTick)
    → AreContainersOf pod max_restart_delay h l.containers → (n : ℕ) → n < l.number
    → IsAcceptable (listings (ticks_of h n)) (listed_in l.observed.containers n)
