-- What holds of every trace.
use Rattle.std.specs.Prelude.{◌≡◌, ◌↔◌, IsSome, IsSomeAnd, ℕ, ◌<◌, ◌≤◌, List, length, slice_get, Option, Some}
use Rattle.quantity.specs.rule.Duration.{end_of_time}
use Rattle.state_diff.specs.state.Instances.{IsAcceptableHistory}
use Rattle.manifest.specs.declared.pod.PodSpec.{PodSpec}
use Rattle.node_config.specs.declared.node.Version.{Version}
use Rattle.node_config.specs.declared.node.Version.TheVariants.{Three}
use Rattle.observations.specs.rule.Pods.{PodObs}
use Rattle.observations.specs.declared.tick.TickObs.{TickObs}
use Rattle.observations.specs.rule.Observations.{shown_of, history}
use Rattle.observations.specs.rule.Limits.{most_pods, most_ticks}
use Rattle.roster.specs.rule.Roll.{key_of_pod}

-- each listing of each container may follow those before it
abbrev pub AreAcceptable : List TickObs → Type 0
AreAcceptable ticks = (pod container : ℕ) → IsAcceptableHistory (history ticks pod container)

-- each tick's moment is later than those before it
abbrev pub AreRising : List TickObs → Type 0
AreRising ticks = (t u : ℕ) (earlier later : TickObs) → t < u → slice_get ticks t ≡ Some earlier
    → slice_get ticks u ≡ Some later → earlier.at < later.at

-- the pod with the number has arrived at tick t: its line comes before the tick
abbrev pub HasArrived : List ℕ → ℕ → ℕ → Type 0
HasArrived arrivals t n = IsSomeAnd (slice_get arrivals n) (λ arrival. arrival ≤ t)

-- it has not left: no line by which it is gone comes before the tick
abbrev pub Stays : List (Option ℕ) → ℕ → ℕ → Type 0
Stays departures t n = (departure : ℕ) → slice_get departures n ≡ Some (Some departure) → t < departure

-- it is present at tick t
abbrev pub IsPresent : List ℕ → List (Option ℕ) → ℕ → ℕ → Type 0
IsPresent arrivals departures t n = HasArrived arrivals t n × Stays departures t n

-- of exactly the pods that are present at tick t one observation, at the tick's moment, with one
-- entry for each of its containers
pub record ShowsEach (pods : List PodSpec) (arrivals : List ℕ) (departures : List (Option ℕ)) (t : ℕ)
    (tick : TickObs) : Type 0 where
  pub told : (n : ℕ) → (n < length tick.pods ↔ HasArrived arrivals t n)
  pub present : (n : ℕ) → (IsSome (shown_of tick n) ↔ IsPresent arrivals departures t n)
  pub moment : (n : ℕ) (shown : PodObs) → shown_of tick n ≡ Some shown → shown.at ≡ tick.at
  pub containers : (n : ℕ) (pod : PodSpec) (shown : PodObs) → slice_get pods n ≡ Some pod
      → shown_of tick n ≡ Some shown
      → length shown.containers ≡ length pod.containers

-- where two pods have one key, the earlier one has left before the later one arrives
abbrev pub HaveOwnKeys : List PodSpec → List ℕ → List (Option ℕ) → Type 0
HaveOwnKeys pods arrivals departures = (n m : ℕ) (p q : PodSpec) (arrival : ℕ) → n < m → slice_get pods n ≡ Some p
    → slice_get pods m ≡ Some q → slice_get arrivals m ≡ Some arrival → key_of_pod p ≡ key_of_pod q
    → (departure : ℕ) × (slice_get departures n ≡ Some (Some departure)) × (departure ≤ arrival)

-- a pod that leaves does so after it has arrived, after ticks that there are
pub record AreDepartures (pods ticks : ℕ) (arrivals : List ℕ) (departures : List (Option ℕ)) : Type 0 where
  pub as_many : length departures ≡ pods
  pub in_range : (n departure : ℕ) → slice_get departures n ≡ Some (Some departure) → departure ≤ ticks
  pub later : (n departure arrival : ℕ) → slice_get departures n ≡ Some (Some departure)
      → slice_get arrivals n ≡ Some arrival → arrival ≤ departure

-- each pod arrives once, after ticks that there are, and not before an earlier one
pub record AreArrivals (pods ticks : ℕ) (arrivals : List ℕ) : Type 0 where
  pub as_many : length arrivals ≡ pods
  pub in_range : (n arrival : ℕ) → slice_get arrivals n ≡ Some arrival → arrival ≤ ticks
  pub in_order : (n m earlier later : ℕ) → n ≤ m → slice_get arrivals n ≡ Some earlier
      → slice_get arrivals m ≡ Some later → earlier ≤ later

-- each tick shows each pod that is present, at moments that rise and are in range; there are not too
-- many of either
pub record HasShape (pods : List PodSpec) (arrivals : List ℕ) (departures : List (Option ℕ))
    (ticks : List TickObs) : Type 0 where
  pub shown : (t : ℕ) (tick : TickObs) → slice_get ticks t ≡ Some tick → ShowsEach pods arrivals departures t tick
  pub arrived : AreArrivals (length pods) (length ticks) arrivals
  pub left : AreDepartures (length pods) (length ticks) arrivals departures
  pub below : (t : ℕ) (tick : TickObs) → slice_get ticks t ≡ Some tick → tick.at < end_of_time
  pub rising : AreRising ticks
  pub few_ticks : length ticks ≤ most_ticks
  pub few_pods : length pods ≤ most_pods
  pub own_keys : HaveOwnKeys pods arrivals departures

-- a pod leaves in version 3 alone
pub record LeaveInThree (version : Version) (departures : List (Option ℕ)) : Type 0 where
  pub is_three : (n departure : ℕ) → slice_get departures n ≡ Some (Some departure) → version ≡ Three
