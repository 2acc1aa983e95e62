-- The thresholds that a node may have (Kubernetes, "Node-pressure Eviction", "Eviction thresholds"), and the order in
-- which the node acts on them (this profile's rule): signal after signal, and of one signal the hard threshold before
-- the soft one.
use Rattle.std.specs.Prelude.{List, [], ◌∷◌, Option}
use Rattle.signals.specs.declared.signal.Signal.{Signal}
use Rattle.signals.specs.declared.signal.Signal.TheVariants.{MemoryAvailable, NodefsAvailable, ImagefsAvailable}
use Rattle.signals.specs.declared.signal.Signal.TheVariants.{NodefsInodesFree, ImagefsInodesFree, PidAvailable}
use Rattle.signals.specs.declared.threshold.Threshold.{Threshold}
use Rattle.signals.specs.declared.threshold.ThresholdKind.{ThresholdKind}
use Rattle.signals.specs.declared.threshold.ThresholdKind.TheVariants.{Hard, Soft}
use Rattle.node_config.specs.rule.EvictionConfig.{EvictionConfig, threshold_of}
use Rattle.node_signals.specs.declared.key.ThresholdKey.{ThresholdKey}

-- the threshold of a kind on a signal
abbrev pub key : Signal → ThresholdKind → ThresholdKey
key signal kind = record { signal = signal; kind = kind }

-- the order in which the node acts on thresholds
abbrev pub serving_order : List ThresholdKey
serving_order =
    key MemoryAvailable Hard ∷ key MemoryAvailable Soft
    ∷ key NodefsAvailable Hard ∷ key NodefsAvailable Soft
    ∷ key ImagefsAvailable Hard ∷ key ImagefsAvailable Soft
    ∷ key NodefsInodesFree Hard ∷ key NodefsInodesFree Soft
    ∷ key ImagefsInodesFree Hard ∷ key ImagefsInodesFree Soft
    ∷ key PidAvailable Hard ∷ key PidAvailable Soft
    ∷ []

-- the node's threshold with this key, if it has one
abbrev pub threshold_at : EvictionConfig → ThresholdKey → Option Threshold
threshold_at eviction key = threshold_of eviction key.kind key.signal
