-- When a node's conditions are true, and since when (Kubernetes, "Node-pressure Eviction", "Node conditions" and "Node
-- condition oscillation"). A condition turns only in a sync tick, in which the node evaluates its signals.
use Rattle.std.specs.Prelude.{◌≡◌, ◌↔◌, ℕ, suc, List, [], ◌∷◌, length, take, slice_get, codes, Some, IsSomeAnd}
use Rattle.histories.specs.rule.Histories.{moment_at}
use Rattle.signals.specs.declared.signal.Signal.{Signal}
use Rattle.signals.specs.declared.signal.Signal.TheVariants.{MemoryAvailable, NodefsAvailable, ImagefsAvailable}
use Rattle.signals.specs.declared.signal.Signal.TheVariants.{NodefsInodesFree, ImagefsInodesFree, PidAvailable}
use Rattle.pressure.specs.rule.Pressures.{Observation, IsMetAt, IsUnderPressure, IsSince}
use Rattle.node_config.specs.rule.EvictionConfig.{EvictionConfig}
use Rattle.observations.specs.declared.tick.TickObs.{TickObs}
use Rattle.observations.specs.rule.Observations.{judged_of}
use Rattle.node_signals.specs.declared.key.ThresholdKey.{ThresholdKey}
use Rattle.node_signals.specs.declared.condition.NodeCondition.{NodeCondition}
use Rattle.node_signals.specs.declared.condition.NodeCondition.TheVariants.{MemoryPressure, DiskPressure, PidPressure}
use Rattle.node_signals.specs.rule.Keys.{serving_order}
use Rattle.node_signals.specs.rule.Thresholds.{IsActiveOnNode}

-- the condition's name in Kubernetes
abbrev pub name_of : NodeCondition → List ℕ
name_of MemoryPressure = codes "MemoryPressure"
name_of DiskPressure = codes "DiskPressure"
name_of PidPressure = codes "PIDPressure"

-- the condition that a signal's thresholds belong to
abbrev pub condition_of : Signal → NodeCondition
condition_of MemoryAvailable = MemoryPressure
condition_of NodefsAvailable = DiskPressure
condition_of ImagefsAvailable = DiskPressure
condition_of NodefsInodesFree = DiskPressure
condition_of ImagefsInodesFree = DiskPressure
condition_of PidAvailable = PidPressure

-- all conditions, in the order of the report
abbrev pub conditions : List NodeCondition
conditions = MemoryPressure ∷ DiskPressure ∷ PidPressure ∷ []

-- the threshold is one of the condition's, and active after these sync ticks
pub record Meets (eviction : EvictionConfig) (condition : NodeCondition) (ticks : List TickObs)
    (key : ThresholdKey) : Type 0 where
  pub belongs : condition_of key.signal ≡ condition
  pub active : IsActiveOnNode eviction ticks key

-- the condition is met after these sync ticks: one of its thresholds is active
abbrev pub IsMet : EvictionConfig → NodeCondition → List TickObs → Type 0
IsMet eviction condition ticks =
    (place : ℕ) × IsSomeAnd (slice_get serving_order place) (Meets eviction condition ticks)

-- one observation for each of these sync ticks, at its moment: whether the condition is met after it
pub record AreObservations (eviction : EvictionConfig) (condition : NodeCondition) (ticks : List TickObs)
    (h : List Observation) : Type 0 where
  pub as_many : length h ≡ length ticks
  pub moments : (t : ℕ) (tick : TickObs) → slice_get ticks t ≡ Some tick → moment_at h t ≡ Some tick.at
  pub met : (t : ℕ) (tick : TickObs) → slice_get ticks t ≡ Some tick
      → (IsMetAt h t ↔ IsMet eviction condition (take (suc t) ticks))

-- the condition is true after these ticks, with this transition period in seconds
abbrev pub IsTrueAfter : EvictionConfig → ℕ → NodeCondition → List TickObs → Type 0
IsTrueAfter eviction period condition ticks =
    (h : List Observation) × AreObservations eviction condition (judged_of ticks) h × IsUnderPressure period h

-- the condition has been true, or has not been, since this moment
abbrev pub IsSinceMoment : EvictionConfig → ℕ → NodeCondition → List TickObs → ℕ → Type 0
IsSinceMoment eviction period condition ticks since =
    (h : List Observation) × AreObservations eviction condition (judged_of ticks) h × IsSince period h since
