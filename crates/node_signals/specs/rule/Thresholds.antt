-- Which of a node's thresholds are active and due, and on which one it acts (Kubernetes, "Node-pressure Eviction",
-- "Eviction thresholds" and "Reclaiming node level resources"; that it acts on one threshold alone in a tick is this
-- profile's rule). Only the sync ticks count, in which the node evaluates its signals; the samples are the ones of such
-- ticks alone, oldest first.
use Rattle.std.specs.Prelude.{◌≡◌, ℕ, ◌+◌, ◌≤◌, List, [], ◌∷◌, ◌++◌, map, slice_get, true, Option, option_and_then}
use Rattle.std.specs.Prelude.{IsTrue, IsSomeAnd}
use Rattle.histories.specs.rule.Histories.{IsFirstPlace}
use Rattle.signals.specs.declared.signal.Signal.{Signal}
use Rattle.signals.specs.declared.threshold.Threshold.{Threshold}
use Rattle.signals.specs.rule.BySignal.{of}
use Rattle.signals.specs.rule.Signals.{is_of_file_system}
use Rattle.quantity.specs.rule.Limit.{amount_of}
use Rattle.thresholds.specs.rule.Samples.{Sample, sample}
use Rattle.thresholds.specs.rule.Thresholds.{IsThresholdActive, IsThresholdDue}
use Rattle.node_config.specs.rule.EvictionConfig.{EvictionConfig}
use Rattle.observations.specs.declared.tick.TickObs.{TickObs}
use Rattle.observations.specs.rule.Observations.{judged_of}
use Rattle.node_signals.specs.declared.key.ThresholdKey.{ThresholdKey}
use Rattle.node_signals.specs.rule.Keys.{serving_order, threshold_at}

-- the samples of a signal, one for each of these ticks
abbrev pub samples : Signal → List TickObs → List Sample
samples signal ticks = map (λ (tick : TickObs). sample tick.at (of tick.signals signal)) ticks

-- the node has the threshold, and it is active after these sync ticks
abbrev pub IsActiveOnNode : EvictionConfig → List TickObs → ThresholdKey → Type 0
IsActiveOnNode eviction ticks key =
    IsSomeAnd (threshold_at eviction key)
    (λ threshold. IsThresholdActive threshold (of eviction.capacity key.signal) (samples key.signal ticks))

-- the node has the threshold, and it is due after these sync ticks
abbrev pub IsDueOnNode : EvictionConfig → List TickObs → ThresholdKey → Type 0
IsDueOnNode eviction ticks key =
    IsSomeAnd (threshold_at eviction key)
    (λ threshold. IsThresholdDue threshold (of eviction.capacity key.signal) (samples key.signal ticks))

-- the value is not below the limit plus the reclaim, of a signal of this capacity
abbrev pub IsEnough : Option ℕ → Threshold → ℕ → Type 0
IsEnough capacity threshold value = amount_of capacity threshold.limit + amount_of capacity threshold.reclaim ≤ value

-- the node has freed enough by itself: the signal is of a file system, and what is left after that is enough
pub record IsReclaimed (eviction : EvictionConfig) (tick : TickObs) (key : ThresholdKey) : Type 0 where
  pub of_file_system : is_of_file_system key.signal ≡ true
  pub freed : IsSomeAnd (threshold_at eviction key)
      (λ threshold. IsSomeAnd (of tick.after_reclaim key.signal) (IsEnough (of eviction.capacity key.signal) threshold))

-- the threshold asks for an eviction in a tick that comes after these: the tick is a sync tick, the threshold is due by
-- the sync ticks, and the node has not freed enough by itself
pub record Asks (eviction : EvictionConfig) (before : List TickObs) (tick : TickObs) (key : ThresholdKey) : Type 0 where
  pub judged : IsTrue tick.judged
  pub due : IsDueOnNode eviction (judged_of (before ++ tick ∷ [])) key
  pub not_reclaimed : IsReclaimed eviction tick key → ⊥

-- the threshold at a place of the serving order asks for an eviction
abbrev pub AsksAt : EvictionConfig → List TickObs → TickObs → ℕ → Type 0
AsksAt eviction before tick place = IsSomeAnd (slice_get serving_order place) (Asks eviction before tick)

-- the threshold that is acted on: the first in the serving order that asks for an eviction
abbrev pub IsServed : EvictionConfig → List TickObs → TickObs → Option ThresholdKey → Type 0
IsServed eviction before tick served =
    (place : Option ℕ) × IsFirstPlace (AsksAt eviction before tick) place
    × (served ≡ option_and_then (slice_get serving_order) place)
