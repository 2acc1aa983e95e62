-- A node's thresholds for eviction, over its capacity (Kubernetes, "Node-pressure Eviction",
-- "Eviction thresholds").
use Rattle.std.specs.Prelude.{ℕ, Option}
use Rattle.signals.specs.declared.by_signal.BySignal.{BySignal}
use Rattle.signals.specs.declared.signal.Signal.{Signal}
use Rattle.signals.specs.declared.threshold.Threshold.{Threshold}
use Rattle.signals.specs.declared.threshold.ThresholdKind.{ThresholdKind}
use Rattle.signals.specs.declared.threshold.ThresholdKind.TheVariants.{Hard, Soft}
use Rattle.signals.specs.rule.BySignal.{of}

-- the capacity of each signal, in thousandths, and the thresholds on it
pub record EvictionConfig : Type 0 where
  pub capacity : BySignal (Option ℕ)
  pub hard : BySignal (Option Threshold)
  pub soft : BySignal (Option Threshold)

-- the threshold of this kind on this signal
abbrev pub threshold_of : EvictionConfig → ThresholdKind → Signal → Option Threshold
threshold_of eviction Hard signal = of eviction.hard signal
threshold_of eviction Soft signal = of eviction.soft signal
