-- The statements of the laws.
use Rattle.std.specs.Prelude.{◌≡◌, ◌↔◌, ℕ, Bool, List, Option, Some, IsTrue}
use Rattle.node_config.specs.rule.EvictionConfig.{EvictionConfig}
use Rattle.observations.specs.declared.tick.TickObs.{TickObs}
use Rattle.node_signals.specs.declared.key.ThresholdKey.{ThresholdKey}
use Rattle.node_signals.specs.declared.condition.NodeCondition.{NodeCondition}
use Rattle.node_signals.specs.declared.event.NodeEvent.{NodeEvent}
use Rattle.node_signals.specs.rule.Thresholds.{Asks, IsServed}
use Rattle.node_signals.specs.rule.Conditions.{IsTrueAfter, IsSinceMoment}
use Rattle.node_signals.specs.rule.Events.{AreNodeEvents}

-- the node acts on at most one threshold in a tick
abbrev pub OneServed : Type 0
OneServed =
    (eviction : EvictionConfig) (before : List TickObs) (tick : TickObs) (one other : Option ThresholdKey)
    → IsServed eviction before tick one → IsServed eviction before tick other → one ≡ other

-- the threshold that is acted on is due, and the node has not freed enough by itself
abbrev pub ServedIsDue : Type 0
ServedIsDue =
    (eviction : EvictionConfig) (before : List TickObs) (tick : TickObs) (key : ThresholdKey)
    → IsServed eviction before tick (Some key) → Asks eviction before tick key

-- a tick has at most one list of events of the node
abbrev pub OneListOfNodeEvents : Type 0
OneListOfNodeEvents =
    (eviction : EvictionConfig) (period : ℕ) (before : List TickObs) (tick : TickObs) (events others : List NodeEvent)
    → AreNodeEvents eviction period before tick events → AreNodeEvents eviction period before tick others
    → events ≡ others

-- a condition is true after some ticks or it isn't, and there is a moment since which it has been so
pub record SomeCondition : Type 0 where
  pub value : (eviction : EvictionConfig) (period : ℕ) (condition : NodeCondition) (ticks : List TickObs)
      → (value : Bool) × (IsTrue value ↔ IsTrueAfter eviction period condition ticks)
  pub since : (eviction : EvictionConfig) (period : ℕ) (condition : NodeCondition) (ticks : List TickObs)
      → (since : ℕ) × IsSinceMoment eviction period condition ticks since

-- every tick has a list of events, whatever ticks came before it
abbrev pub SomeListOfNodeEvents : Type 0
SomeListOfNodeEvents =
    (eviction : EvictionConfig) (period : ℕ) (before : List TickObs) (tick : TickObs)
    → (events : List NodeEvent) × AreNodeEvents eviction period before tick events
