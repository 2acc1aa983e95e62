-- What the ticks show of one pod and of one container.
use Rattle.std.specs.Prelude.{ℕ, List, map, Option, option_and_then, slice_get}
use Rattle.std.specs.Option.{option_flatten}
use Rattle.std.specs.List.{filter, filter_map}
use Rattle.histories.specs.rule.Histories.{recorded}
use Rattle.state_diff.specs.declared.seen.Seen.{Seen}
use Rattle.state_diff.specs.rule.Instances.{Tick}
use Rattle.observations.specs.declared.container.ContainerObs.{ContainerObs}
use Rattle.observations.specs.rule.Pods.{PodObs}
use Rattle.observations.specs.declared.tick.TickObs.{TickObs}

-- a tick's observation of a pod, by number, if the pod is present
abbrev pub shown_of : TickObs → ℕ → Option PodObs
shown_of tick pod = option_flatten (slice_get tick.pods pod)

-- what a tick shows of the pods that are present, by their numbers
abbrev pub all_shown : TickObs → List PodObs
all_shown tick = filter_map (λ (shown : Option PodObs). shown) tick.pods

-- the sync ticks, in which the node evaluates its signals (this project's extended format; all ticks without the member
-- that denies it)
abbrev pub judged_of : List TickObs → List TickObs
judged_of ticks = filter (λ (tick : TickObs). tick.judged) ticks

-- what an observation of a pod lists of a container, by number
abbrev pub listed_in : PodObs → ℕ → Option Seen
listed_in shown container = option_and_then (λ (o : ContainerObs). o.seen) (slice_get shown.containers container)

-- a pod's own ticks: what is shown of it, by the ticks that have an observation of it
abbrev pub own_ticks : List TickObs → ℕ → List PodObs
own_ticks ticks pod = filter_map (λ (tick : TickObs). shown_of tick pod) ticks

-- the listings of a container, one for each of its pod's own ticks
abbrev pub history : List TickObs → ℕ → ℕ → List Tick
history ticks pod container =
    map (λ (shown : PodObs). recorded shown.at (listed_in shown container)) (own_ticks ticks pod)
