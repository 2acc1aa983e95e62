use Rattle.std.proofs.Common.{ℕ, ◌<◌, List}
use Rattle.manifest.specs.declared.pod.PodSpec.{PodSpec}
use Rattle.containers.specs.rule.Ticks.{listings}
use Rattle.state_diff.specs.state.Instances.{IsAcceptable}
use Rattle.pod_state.specs.rule.Pods.{PodTick, ticks_of}
use Rattle.pod_piece.specs.state.Listings.{listed_in, AreListed}
use Rattle.pod_piece.proofs.listings.are_acceptable.Given as goal

abbrev pub invariant-loop-number : goal.invariant-loop-number
invariant-loop-number l = (pod : PodSpec) (h : List PodTick) → AreListed pod h l.differs → (n : ℕ) → n < l.number
    → IsAcceptable (listings (ticks_of h n)) (listed_in l.observed.containers n)
