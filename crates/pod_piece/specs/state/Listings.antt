-- What may come next of a pod, and what follows its listings.
use Rattle.std.specs.Prelude.{◌≡◌, ℕ, ◌<◌, List, length, Bool, true, false, Option, None, slice_index_or}
use Rattle.quantity.specs.rule.Duration.{end_of_time}
use Rattle.histories.specs.state.Histories.{EndsBefore}
use Rattle.manifest.specs.declared.pod.PodSpec.{PodSpec}
use Rattle.observations.specs.declared.container.ContainerObs.{ContainerObs}
use Rattle.state_diff.specs.declared.seen.Seen.{Seen}
use Rattle.state_diff.specs.declared.differ.Differ.{Differ}
use Rattle.state_diff.specs.state.Differ.{Accepts, IsBefore}
use Rattle.pod_state.specs.rule.Pods.{PodTick, IsEnd, HasEnded}
use Rattle.pod_state.specs.state.Listings.{listed_in, AreAcceptable, AreListed}

-- the observation shows each container, and may come next
pub record MayComeNext (pod : PodSpec) (h : List PodTick) (shown : List ContainerObs) : Type 0 where
  pub as_many : length shown ≡ length pod.containers
  pub acceptable : AreAcceptable pod h shown

-- the tick may come next, at its moment
pub record IsNextTick (pod : PodSpec) (h : List PodTick) (tick : PodTick) : Type 0 where
  pub shown : MayComeNext pod h tick.entry.containers
  pub later : EndsBefore h tick.moment
  pub bounded : tick.moment < end_of_time

-- whether some of these ticks has ended the pod
abbrev pub IsOver : PodSpec → Option ℕ → List PodTick → Bool → Type 0
IsOver pod evicted h true = HasEnded pod evicted h
IsOver pod evicted h false = IsEnd pod evicted h None

-- one differ for each container, and once the pod has ended they are as these ticks leave them
pub record AreListedOnceEnded (pod : PodSpec) (evicted : Option ℕ) (h : List PodTick)
    (differs : List Differ) : Type 0 where
  pub as_many : length differs ≡ length pod.containers
  pub ended : HasEnded pod evicted h → AreListed pod h differs

-- the listing may come next, at the moment
pub record Follows (differ : Differ) (at : ℕ) (seen : Option Seen) : Type 0 where
  pub accepted : Accepts differ seen
  pub later : IsBefore differ at

-- the listing of each container may come next, at the moment
abbrev pub AllFollow : List Differ → ℕ → List ContainerObs → Type 0
AllFollow differs at shown =
    (number : ℕ) (d : Differ) → number < length differs → Follows (slice_index_or differs number d) at
    (listed_in shown number)
