-- The events of a node in a tick that comes after these ticks, by their places (Kubernetes,
-- "Node-pressure Eviction"; the places are this profile's).
use Rattle.std.specs.Prelude.{◌≡◌, ◌↔◌, List, [], ◌∷◌, ◌++◌, ℕ, Bool, Option, Some, None, IsTrue}
use Rattle.histories.specs.rule.TheOne.{IsTheOne}
use Rattle.node_config.specs.rule.EvictionConfig.{EvictionConfig}
use Rattle.observations.specs.declared.tick.TickObs.{TickObs}
use Rattle.observations.specs.rule.Observations.{judged_of}
use Rattle.node_signals.specs.declared.key.ThresholdKey.{ThresholdKey}
use Rattle.node_signals.specs.declared.condition.NodeCondition.{NodeCondition}
use Rattle.node_signals.specs.declared.event.NodeEvent.{NodeEvent}
use Rattle.node_signals.specs.declared.event.NodeEvent.TheVariants.{Threshold, Pressure, Reclaim}
use Rattle.node_signals.specs.rule.Keys.{serving_order}
use Rattle.node_signals.specs.rule.Thresholds.{IsActiveOnNode, IsDueOnNode, IsReclaimed}
use Rattle.node_signals.specs.rule.Conditions.{conditions, IsTrueAfter}

-- the event that a value has changed: N is whether it is true now, O whether it was before
abbrev pub Changes : (Bool → NodeEvent) → Type 0 → Type 0 → NodeEvent → Type 0
Changes event_of N O event = (value : Bool) × (event ≡ event_of value) × (IsTrue value ↔ N) × ((IsTrue value ↔ O) → ⊥)

-- the threshold is active after the tick and was not before, or the other way round, by the sync ticks
abbrev pub ChangesThreshold : EvictionConfig → List TickObs → TickObs → ThresholdKey → NodeEvent → Type 0
ChangesThreshold eviction before tick key =
    Changes (Threshold key)
    (IsActiveOnNode eviction (judged_of (before ++ tick ∷ [])) key) (IsActiveOnNode eviction (judged_of before) key)

-- the condition is true after the tick and was not before, or the other way round
abbrev pub ChangesCondition : EvictionConfig → ℕ → List TickObs → TickObs → NodeCondition → NodeEvent → Type 0
ChangesCondition eviction period before tick condition =
    Changes (Pressure condition)
    (IsTrueAfter eviction period condition (before ++ tick ∷ [])) (IsTrueAfter eviction period condition before)

-- the tick is a sync tick, the threshold is due by the sync ticks, and the node has freed enough by itself
abbrev pub Reclaims : EvictionConfig → List TickObs → TickObs → ThresholdKey → NodeEvent → Type 0
Reclaims eviction before tick key event =
    (event ≡ Reclaim key) × IsTrue tick.judged
    × IsDueOnNode eviction (judged_of (before ++ tick ∷ [])) key × IsReclaimed eviction tick key

-- the list of an event, if there is one
abbrev pub as_list : Option NodeEvent → List NodeEvent
as_list None = []
as_list (Some event) = event ∷ []

-- the events of these items, in their order: of each the one of which P holds, if there is one
abbrev pub AreGiven : {A : Type 0} → (A → NodeEvent → Type 0) → List A → List NodeEvent → Type 0
AreGiven P [] events = events ≡ []
AreGiven P (x ∷ xs) events =
    (event : Option NodeEvent) × (rest : List NodeEvent) × IsTheOne (P x) event × AreGiven P xs rest
    × (events ≡ as_list event ++ rest)

-- all events of the tick: thresholds in their serving order, conditions, then what was reclaimed
pub record AreNodeEvents (eviction : EvictionConfig) (period : ℕ) (before : List TickObs) (tick : TickObs)
    (events : List NodeEvent) : Type 0 where
  pub thresholds : List NodeEvent
  pub of_thresholds : AreGiven (ChangesThreshold eviction before tick) serving_order thresholds
  pub pressures : List NodeEvent
  pub of_conditions : AreGiven (ChangesCondition eviction period before tick) conditions pressures
  pub reclaims : List NodeEvent
  pub of_reclaims : AreGiven (Reclaims eviction before tick) serving_order reclaims
  pub in_order : events ≡ thresholds ++ pressures ++ reclaims
