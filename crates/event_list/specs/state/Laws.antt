-- The statements of the laws.
use Rattle.std.specs.Prelude.{◌≡◌, ◌↔◌, ℕ, ◌≤◌, List, length, take, slice_get, All, Contains, Option, Some}
use Rattle.manifest.specs.declared.pod.PodSpec.{PodSpec}
use Rattle.node_config.specs.declared.node.NodeConfig.{NodeConfig}
use Rattle.observations.specs.declared.tick.TickObs.{TickObs}
use Rattle.probes.specs.state.Container.{AreInRange}
use Rattle.eviction.specs.declared.eviction.Eviction.{Eviction}
use Rattle.eviction.specs.rule.Replay.{IsReplay}
use Rattle.event_list.specs.declared.event.Event.{Event}
use Rattle.event_list.specs.declared.event.EventKind.TheVariants.{Evicted}
use Rattle.event_list.specs.rule.Events.{event, AreTickEvents, AreEvents}

-- the tick shows none but the pods that there are
abbrev pub ShowsKnownPods : List PodSpec → TickObs → Type 0
ShowsKnownPods pods tick = length tick.pods ≤ length pods

-- the numbers of the probes of each of the pod's containers are in their ranges
abbrev pub HasProbesInRange : PodSpec → Type 0
HasProbesInRange pod = All (λ spec. AreInRange spec.probes) pod.containers

-- each of these pods has the numbers of its probes in their ranges
abbrev pub HaveProbesInRange : List PodSpec → Type 0
HaveProbesInRange pods = All HasProbesInRange pods

-- ticks have a list of events, whatever the evictions are, where each shows none but the pods that there are, and the
-- numbers of the probes of each container are in their ranges
abbrev pub SomeListOfEvents : Type 0
SomeListOfEvents =
    (config : NodeConfig) (pods : List PodSpec) (ticks : List TickObs) (evictions : List (Option Eviction))
    → All (ShowsKnownPods pods) ticks → HaveProbesInRange pods
    → (events : List Event) × AreEvents config pods ticks evictions events

-- ticks with these evictions have at most one list of events
abbrev pub OneListOfEvents : Type 0
OneListOfEvents =
    (config : NodeConfig) (pods : List PodSpec) (ticks : List TickObs) (evictions : List (Option Eviction))
    (events others : List Event)
    → AreEvents config pods ticks evictions events → AreEvents config pods ticks evictions others
    → events ≡ others

-- the event `evicted` is among a tick's events just when the list of evictions has that eviction at the tick
abbrev pub EvictedAsListed : Type 0
EvictedAsListed =
    (config : NodeConfig) (pods : List PodSpec) (ticks : List TickObs) (evictions : List (Option Eviction))
    (t : ℕ) (tick : TickObs) (listed : Option Eviction) (events : List Event) (e : Eviction)
    → IsReplay config pods ticks evictions
    → slice_get ticks t ≡ Some tick → slice_get evictions t ≡ Some listed
    → AreTickEvents config pods (take t ticks) tick (take t evictions) events
    → (Contains events (event tick.at (Evicted e)) ↔ (listed ≡ Some e))
