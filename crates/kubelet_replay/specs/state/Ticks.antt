-- Which ticks a node with these pods can take one after the other.
use Rattle.std.specs.Prelude.{◌≡◌, ℕ, ◌+◌, ◌<◌, ◌≤◌, ◌++◌, List, [], length, take, drop, slice_get, Option}
use Rattle.std.specs.Prelude.{Some}
use Rattle.quantity.specs.rule.Duration.{end_of_time}
use Rattle.histories.specs.state.Histories.{EndsBefore}
use Rattle.manifest.specs.declared.pod.PodSpec.{PodSpec}
use Rattle.node_config.specs.declared.node.NodeConfig.{NodeConfig}
use Rattle.node_config.specs.declared.node.Version.{Version}
use Rattle.observations.specs.rule.Pods.{PodObs}
use Rattle.observations.specs.declared.tick.TickObs.{TickObs}
use Rattle.observations.specs.rule.Limits.{most_ticks, most_pods}
use Rattle.observations.specs.rule.Observations.{shown_of}
use Rattle.pod_state.specs.rule.Pods.{pod_tick}
use Rattle.pod_piece.specs.state.Listings.{IsNextTick}
use Rattle.eviction.specs.rule.Replay.{pod_ticks}
use Rattle.node_rounds.specs.state.Node.{State, IsWhole}
use Rattle.tick_round.specs.state.Node.{IsAfter}

-- there are not too many of either; what each tick shows of a pod may come after the pod's own earlier ticks, at the
-- tick's moment; the moments rise and are in range; and no tick shows fewer pods than one before it, or more than there
-- are
pub record AreReplayable (pods : List PodSpec) (ticks : List TickObs) : Type 0 where
  pub next : (t n : ℕ) (tick : TickObs) (pod : PodSpec) (shown : PodObs) → slice_get ticks t ≡ Some tick
      → slice_get pods n ≡ Some pod → shown_of tick n ≡ Some shown
      → IsNextTick pod (pod_ticks (take t ticks) n) (pod_tick shown)
  pub ends : (t n : ℕ) (tick : TickObs) → slice_get ticks t ≡ Some tick
      → EndsBefore (pod_ticks (take t ticks) n) tick.at
  pub moments : (t n : ℕ) (tick : TickObs) (shown : PodObs) → slice_get ticks t ≡ Some tick
      → shown_of tick n ≡ Some shown
      → shown.at ≡ tick.at
  pub rising : (t u : ℕ) (earlier later : TickObs) → t < u → slice_get ticks t ≡ Some earlier
      → slice_get ticks u ≡ Some later
      → earlier.at < later.at
  pub below : (t : ℕ) (tick : TickObs) → slice_get ticks t ≡ Some tick → tick.at < end_of_time
  pub growing : (t u : ℕ) (earlier later : TickObs) → t < u → slice_get ticks t ≡ Some earlier
      → slice_get ticks u ≡ Some later
      → length earlier.pods ≤ length later.pods
  pub few_ticks : length ticks ≤ most_ticks
  pub few_pods : length pods ≤ most_pods
  pub within : (t : ℕ) (tick : TickObs) → slice_get ticks t ≡ Some tick → length tick.pods ≤ length pods

-- none leaves out a pod that the version does not let it leave out
abbrev pub AreWhole : Version → List TickObs → Type 0
AreWhole version ticks = (t : ℕ) (tick : TickObs) → slice_get ticks t ≡ Some tick → IsWhole version tick

-- a node of some configuration that has taken some ticks, on which this many more pods may arrive
pub record MayArrive (count : ℕ) (node : Option State) : Type 0 where
  pub config : NodeConfig
  pub arrived : List PodSpec
  pub taken : List TickObs
  pub after : IsAfter config arrived taken node
  pub room : length arrived + count ≤ most_pods

-- a node of some configuration that has taken no tick, and on which no pod has arrived
pub record IsNew (node : Option State) : Type 0 where
  pub config : NodeConfig
  pub after : IsAfter config [] [] node

-- the first this many of these pods have arrived, one after the other, and these are left
pub record HaveArrived (all : List PodSpec) (count : ℕ) (old new : Option State) (left : List PodSpec) : Type 0 where
  pub arrived : (config : NodeConfig) (pods : List PodSpec) (ticks : List TickObs) → IsAfter config pods ticks old
      → IsAfter config (pods ++ take count all) ticks new
  pub left_is : left ≡ drop count all
