-- What a node's conditions have come to. (Kubernetes, "Node-pressure Eviction", "Node conditions".)
use Rattle.std.specs.Prelude.{◌≡◌, ◌↔◌, ℕ, List, length, slice_get, Some, IsTrue}
use Rattle.node_config.specs.declared.node.NodeConfig.{NodeConfig}
use Rattle.observations.specs.declared.tick.TickObs.{TickObs}
use Rattle.node_signals.specs.declared.condition.NodeCondition.{NodeCondition}
use Rattle.node_signals.specs.rule.Conditions.{conditions, IsTrueAfter, IsSinceMoment}
use Rattle.node_rounds.specs.declared.summary.ConditionStatus.{ConditionStatus}

-- a condition of a node after these ticks
pub record IsConditionAfter (config : NodeConfig) (ticks : List TickObs) (condition : NodeCondition)
    (status : ConditionStatus) : Type 0 where
  pub named : status.condition ≡ condition
  pub value : IsTrue status.value
      ↔ IsTrueAfter config.eviction config.eviction_pressure_transition_period condition ticks
  pub since : IsSinceMoment config.eviction config.eviction_pressure_transition_period condition ticks status.since

-- the statuses of all conditions, in their order
pub record AreConditionsAfter (config : NodeConfig) (ticks : List TickObs)
    (statuses : List ConditionStatus) : Type 0 where
  pub as_many : length statuses ≡ length conditions
  pub each : (n : ℕ) (condition : NodeCondition) (status : ConditionStatus) → slice_get conditions n ≡ Some condition
      → slice_get statuses n ≡ Some status → IsConditionAfter config ticks condition status
