-- The state of a node's thresholds and conditions after a list of ticks.
use Rattle.std.specs.Prelude.{◌≡◌, ℕ, List, length, slice_get, Option, Some, None}
use Rattle.signals.specs.declared.threshold.Threshold.{Threshold}
use Rattle.signals.specs.rule.BySignal.{of}
use Rattle.thresholds.specs.declared.watch.Watch.{Watch}
use Rattle.thresholds.specs.rule.Samples.{Sample}
use Rattle.thresholds.specs.state.Watch.{IsStateOf as IsWatchState}
use Rattle.pressure.specs.declared.pressure.Pressure.{Pressure}
use Rattle.pressure.specs.rule.Pressures.{Observation}
use Rattle.pressure.specs.state.State.{IsStateOf as IsPressureState}
use Rattle.node_config.specs.rule.EvictionConfig.{EvictionConfig}
use Rattle.observations.specs.declared.tick.TickObs.{TickObs}
use Rattle.observations.specs.rule.Observations.{judged_of}
use Rattle.node_signals.specs.declared.key.ThresholdKey.{ThresholdKey}
use Rattle.node_signals.specs.declared.condition.NodeCondition.{NodeCondition}
use Rattle.node_signals.specs.declared.condition.NodeCondition.TheVariants.{MemoryPressure, DiskPressure, PidPressure}
use Rattle.node_signals.specs.declared.node.NodeSignals.{NodeSignals}
use Rattle.node_signals.specs.declared.pressures.Pressures.{Pressures}
use Rattle.node_signals.specs.rule.Keys.{serving_order, threshold_at}
use Rattle.node_signals.specs.rule.Thresholds.{samples}
use Rattle.node_signals.specs.rule.Conditions.{AreObservations}

-- the watch after these samples; there is one where the node has the threshold, and only there
abbrev pub IsWatchOf : Option Threshold → Option ℕ → List Sample → Option Watch → Type 0
IsWatchOf None capacity h None = Unit {0}
IsWatchOf None capacity h (Some watch) = ⊥
IsWatchOf (Some threshold) capacity h None = ⊥
IsWatchOf (Some threshold) capacity h (Some watch) = IsWatchState threshold capacity h watch

-- the watch of the threshold with this key, after these ticks
abbrev pub IsWatchAt : EvictionConfig → List TickObs → ThresholdKey → Option Watch → Type 0
IsWatchAt eviction ticks key watch =
    IsWatchOf (threshold_at eviction key) (of eviction.capacity key.signal) (samples key.signal ticks) watch

-- the watches after these ticks, one for each place of the serving order
pub record AreWatches (eviction : EvictionConfig) (ticks : List TickObs) (watches : List (Option Watch)) : Type 0 where
  pub as_many : length watches ≡ length serving_order
  pub each : (place : ℕ) (key : ThresholdKey) (watch : Option Watch) → slice_get serving_order place ≡ Some key
      → slice_get watches place ≡ Some watch → IsWatchAt eviction ticks key watch

-- the state of a pressure after what these ticks make of its condition
abbrev pub IsPressureOf : EvictionConfig → ℕ → NodeCondition → List TickObs → Pressure → Type 0
IsPressureOf eviction period condition ticks pressure =
    (h : List Observation) × AreObservations eviction condition ticks h × IsPressureState period h pressure

-- the pressures of the three conditions, after these ticks
pub record ArePressures (eviction : EvictionConfig) (period : ℕ) (ticks : List TickObs)
    (pressures : Pressures) : Type 0 where
  pub memory : IsPressureOf eviction period MemoryPressure ticks pressures.memory
  pub disk : IsPressureOf eviction period DiskPressure ticks pressures.disk
  pub pid : IsPressureOf eviction period PidPressure ticks pressures.pid

-- the node's state after these ticks, with these thresholds and this transition period in seconds
pub record IsStateOf (eviction : EvictionConfig) (period : ℕ) (ticks : List TickObs) (node : NodeSignals) : Type 0 where
  pub watches : AreWatches eviction (judged_of ticks) node.watches
  pub pressures : ArePressures eviction period (judged_of ticks) node.pressures
