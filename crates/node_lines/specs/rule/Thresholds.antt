-- The thresholds that a node line sets (Kubernetes, "Node-pressure Eviction", "Soft eviction
-- thresholds", "Hard eviction thresholds" and "Minimum eviction reclaim").
use Rattle.std.specs.Prelude.{ℕ, Option, Some, None, Result, Ok, Err, codes}
use Rattle.serde_json.specs.Data.{Data}
use Rattle.json_fields.specs.rule.Fields.{field_at}
use Rattle.json_fields.specs.rule.Reading.{◌>>=◌}
use Rattle.quantity.specs.declared.limit.Limit.{Limit}
use Rattle.signals.specs.declared.by_signal.BySignal.{BySignal}
use Rattle.signals.specs.declared.signal.Signal.{Signal}
use Rattle.signals.specs.declared.threshold.Threshold.{Threshold}
use Rattle.signals.specs.rule.BySignal.{of, for_each}
use Rattle.node_config.specs.rule.EvictionConfig.{EvictionConfig}
use Rattle.node_lines.specs.declared.eviction.Written.{Written}
use Rattle.node_lines.specs.declared.fault.NodeFault.{NodeFault}
use Rattle.node_lines.specs.declared.fault.NodeFault.TheVariants.{SoftWithoutGrace}
use Rattle.node_lines.specs.rule.Limits.{limits_in, reclaims_in, hard_limits}
use Rattle.node_lines.specs.rule.Maps.{map_of, quantity_at, duration_at}
use Rattle.json_fields.specs.rule.SignalMaps.{read_each}

-- a hard threshold has no grace
abbrev pub hard_threshold : Option Limit → Limit → Option Threshold
hard_threshold None reclaim = None
hard_threshold (Some limit) reclaim = Some (record { limit = limit; reclaim = reclaim; grace = 0 })

-- a soft one needs its grace, in seconds
abbrev pub soft_threshold : Option Limit → Limit → Option ℕ → Result (Option Threshold) NodeFault
soft_threshold None reclaim grace = Ok None
soft_threshold (Some limit) reclaim None = Err SoftWithoutGrace
soft_threshold (Some limit) reclaim (Some grace) =
    Ok (Some (record { limit = limit; reclaim = reclaim; grace = grace }))

-- what a node line writes of evictions, over this capacity, every field read; of the limits those
-- alone that set a threshold
unfoldable pub written_over : BySignal (Option ℕ) → Data → Result Written NodeFault
written_over capacity d = do
  hard ← hard_limits capacity (field_at (codes "evictionHard") d)
  soft ← limits_in capacity (field_at (codes "evictionSoft") d)
  graces ← map_of (λ signal. duration_at) (field_at (codes "evictionSoftGracePeriod") d)
  reclaims ← reclaims_in capacity (field_at (codes "evictionMinimumReclaim") d)
  Ok (record { capacity = capacity; hard = hard; soft = soft; graces = graces; reclaims = reclaims })

unfoldable pub written_in : Data → Result Written NodeFault
written_in d = do
  capacity ← map_of (λ signal. quantity_at) (field_at (codes "capacity") d)
  written_over capacity d

-- the signal's hard threshold, if it has one
abbrev pub hard_threshold_of : Written → Signal → Option Threshold
hard_threshold_of written signal = hard_threshold (of written.hard signal) (of written.reclaims signal)

-- its soft threshold, if it has one, or the fault that it has no grace period
abbrev pub soft_threshold_of : Written → Signal → Result (Option Threshold) NodeFault
soft_threshold_of written signal =
    soft_threshold (of written.soft signal) (of written.reclaims signal) (of written.graces signal)

abbrev pub hard_thresholds : Written → BySignal (Option Threshold)
hard_thresholds written = for_each (hard_threshold_of written)

abbrev pub soft_thresholds : Written → Result (BySignal (Option Threshold)) NodeFault
soft_thresholds written = read_each (soft_threshold_of written)

-- the thresholds, over the capacity
abbrev pub eviction_from : Written → Result EvictionConfig NodeFault
eviction_from written = soft_thresholds written >>= λ soft.
    Ok (record { capacity = written.capacity; hard = hard_thresholds written; soft = soft })
