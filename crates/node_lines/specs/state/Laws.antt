-- The thresholds of a node line (Kubernetes, "Node-pressure Eviction", "Hard eviction thresholds", "Soft eviction
-- thresholds" and "Minimum eviction reclaim"): the statements of the laws.
use Rattle.std.specs.Prelude.{◌≡◌, ◌⊎◌, ℕ, List, Option, Some, None, option_and_then, unwrap_or, Result, Ok, Err}
use Rattle.std.specs.Prelude.{IsOk, codes}
use Rattle.serde_json.specs.Data.{Data}
use Rattle.serde_json.specs.Find.{as_str}
use Rattle.json_fields.specs.rule.Fields.{field_at, text_at}
use Rattle.quantity.specs.rule.Duration.{duration_of}
use Rattle.quantity.specs.declared.limit.Limit.{Limit}
use Rattle.quantity.specs.declared.limit.Limit.TheVariants.{Percent, Quantity}
use Rattle.json_fields.specs.rule.Quantities.{limit_in}
use Rattle.signals.specs.declared.signal.Signal.{Signal}
use Rattle.signals.specs.declared.threshold.Threshold.{Threshold}
use Rattle.signals.specs.declared.threshold.ThresholdKind.TheVariants.{Hard, Soft}
use Rattle.signals.specs.rule.BySignal.{of}
use Rattle.node_config.specs.declared.node.NodeConfig.{NodeConfig}
use Rattle.node_config.specs.rule.EvictionConfig.{threshold_of}
use Rattle.node_lines.specs.declared.fault.NodeFault.TheVariants.{SoftWithoutGrace}
use Rattle.node_lines.specs.rule.Limits.{default_limit, where_possible}
use Rattle.json_fields.specs.rule.SignalMaps.{in_map}
use Rattle.node_lines.specs.rule.Node.{name_from, settings_in, node_of}
use Rattle.node_lines.specs.rule.Thresholds.{hard_threshold, written_in}

-- the value that was read, if there is one
abbrev pub held : {A E : Type 0} → Result A E → Option A
held (Ok x) = Some x
held (Err fault) = None

-- the limit that the map of this name writes for a signal
abbrev pub limit_written : List ℕ → Data → Signal → Option Limit
limit_written name d signal = option_and_then (λ v. held (limit_in v))
    (in_map (field_at name d) signal)

-- the grace of a soft threshold, in seconds
abbrev pub grace_written : Data → Signal → Option ℕ
grace_written d signal =
    option_and_then (λ v. option_and_then (λ text. held (duration_of text)) (as_str v))
    (in_map (field_at (codes "evictionSoftGracePeriod") d) signal)

-- 0 where none is written
abbrev pub reclaim_written : Data → Signal → Limit
reclaim_written d signal = unwrap_or
    (limit_written (codes "evictionMinimumReclaim") d signal) (Quantity 0)

abbrev pub SwitchesOff : Limit → Type 0
SwitchesOff limit = (limit ≡ Percent 0) ⊎ (limit ≡ Percent 10000)

-- A node of this line has the threshold: limit and reclaim are as they are written, and the grace is this.
pub record IsAsWritten (name : List ℕ) (d : Data) (signal : Signal) (grace : Option ℕ) (threshold : Threshold)
    : Type 0 where
  pub has_limit : limit_written name d signal ≡ Some threshold.limit
  pub has_reclaim : reclaim_written d signal ≡ threshold.reclaim
  pub has_grace : grace ≡ Some threshold.grace

-- without `evictionHard` the hard thresholds are the defaults, as far as they have their capacity
abbrev pub DefaultsWhereNoneIsWritten : Type 0
DefaultsWhereNoneIsWritten = (d : Data) (node : NodeConfig) (signal : Signal) →
    node_of d ≡ Ok node → field_at (codes "evictionHard") d ≡ None →
    threshold_of node.eviction Hard signal ≡ hard_threshold
    (where_possible (of node.eviction.capacity signal) (default_limit signal)) (reclaim_written d signal)

-- with it there are no others than its own
abbrev pub HardIsAsWritten : Type 0
HardIsAsWritten = (d map : Data) (node : NodeConfig) (signal : Signal) (threshold : Threshold) →
    node_of d ≡ Ok node → field_at (codes "evictionHard") d ≡ Some map →
    threshold_of node.eviction Hard signal ≡ Some threshold →
    IsAsWritten (codes "evictionHard") d signal (Some 0) threshold

-- each soft threshold is written, and so is its grace
abbrev pub SoftIsAsWritten : Type 0
SoftIsAsWritten = (d : Data) (node : NodeConfig) (signal : Signal) (threshold : Threshold) → node_of d ≡ Ok node →
    threshold_of node.eviction Soft signal ≡ Some threshold →
    IsAsWritten (codes "evictionSoft") d signal (grace_written d signal) threshold

-- a percentage of 0 or 100 sets no threshold
abbrev pub OffSetsNoHard : Type 0
OffSetsNoHard = (d : Data) (node : NodeConfig) (signal : Signal) (limit : Limit) → node_of d ≡ Ok node →
    limit_written (codes "evictionHard") d signal ≡ Some limit → SwitchesOff limit →
    threshold_of node.eviction Hard signal ≡ None

abbrev pub OffSetsNoSoft : Type 0
OffSetsNoSoft = (d : Data) (node : NodeConfig) (signal : Signal) (limit : Limit) → node_of d ≡ Ok node →
    limit_written (codes "evictionSoft") d signal ≡ Some limit → SwitchesOff limit →
    threshold_of node.eviction Soft signal ≡ None

-- a limit that the map of this name writes for the signal, and that switches nothing off
pub record SetsThreshold (name : List ℕ) (d : Data) (signal : Signal) (limit : Limit) : Type 0 where
  pub is_written : limit_written name d signal ≡ Some limit
  pub on : SwitchesOff limit → ⊥

-- the threshold of this limit and this grace, with the signal's reclaim
abbrev pub threshold_with : Data → Signal → Limit → ℕ → Threshold
threshold_with d signal limit grace = record { limit = limit; reclaim = reclaim_written d signal; grace = grace }

-- a node of a line has for every limit that is written, and not switched off, the threshold with that limit; a soft one
-- has its written grace, which is there
pub record EveryLimitSetsItsThreshold : Type 0 where
  pub hard : (d : Data) (node : NodeConfig) (signal : Signal) (limit : Limit) → node_of d ≡ Ok node
      → SetsThreshold (codes "evictionHard") d signal limit
      → threshold_of node.eviction Hard signal ≡ Some (threshold_with d signal limit 0)
  pub soft : (d : Data) (node : NodeConfig) (signal : Signal) (limit : Limit) → node_of d ≡ Ok node
      → SetsThreshold (codes "evictionSoft") d signal limit
      → (grace : ℕ) × (grace_written d signal ≡ Some grace)
      × (threshold_of node.eviction Soft signal ≡ Some (threshold_with d signal limit grace))

-- there is no `evictionHard`, and this is the signal's default, which has its capacity
pub record IsDefault (d : Data) (node : NodeConfig) (signal : Signal) (limit : Limit) : Type 0 where
  pub none_written : field_at (codes "evictionHard") d ≡ None
  pub limit_is : where_possible (of node.eviction.capacity signal) (default_limit signal) ≡ Some limit

-- and each of its thresholds comes from a limit that is written, and not switched off, or from a default
pub record EveryThresholdHasItsLimit : Type 0 where
  pub hard : (d : Data) (node : NodeConfig) (signal : Signal) (threshold : Threshold) → node_of d ≡ Ok node
      → threshold_of node.eviction Hard signal ≡ Some threshold
      → (SetsThreshold (codes "evictionHard") d signal threshold.limit ⊎ IsDefault d node signal threshold.limit)
      × (threshold ≡ threshold_with d signal threshold.limit 0)
  pub soft : (d : Data) (node : NodeConfig) (signal : Signal) (threshold : Threshold) → node_of d ≡ Ok node
      → threshold_of node.eviction Soft signal ≡ Some threshold
      → SetsThreshold (codes "evictionSoft") d signal threshold.limit
      × (grace_written d signal ≡ Some threshold.grace)
      × (threshold ≡ threshold_with d signal threshold.limit threshold.grace)

-- every field is accepted
pub record IsAccepted (d : Data) : Type 0 where
  pub name : IsOk (name_from (text_at (codes "name") d))
  pub settings : IsOk (settings_in d)
  pub maps : IsOk (written_in d)

-- a soft threshold is written, and no grace of it
pub record LacksGrace (d : Data) : Type 0 where
  pub signal : Signal
  pub limit : Limit
  pub limit_is : limit_written (codes "evictionSoft") d signal ≡ Some limit
  pub no_grace : grace_written d signal ≡ None

-- a missing grace is the fault only where nothing else is
abbrev pub MissingGraceComesLast : Type 0
MissingGraceComesLast = (d : Data) → node_of d ≡ Err SoftWithoutGrace → IsAccepted d × LacksGrace d
