-- Thresholds whose percentages are of a capacity that is known, and of what they are built.
use Rattle.std.specs.Prelude.{◌≡◌, Option, Some}
use Rattle.quantity.specs.declared.limit.Limit.{Limit}
use Rattle.signals.specs.declared.by_signal.BySignal.{BySignal}
use Rattle.signals.specs.declared.signal.Signal.{Signal}
use Rattle.signals.specs.declared.threshold.Threshold.{Threshold}
use Rattle.signals.specs.rule.BySignal.{of}
use Rattle.node_lines.specs.declared.eviction.Written.{Written}
use Rattle.node_lines.specs.state.Limits.{HaveTheirCapacity, ReclaimsHaveTheirCapacity}

-- each percentage among what was written has its signal's capacity
pub record HasCapacities (written : Written) : Type 0 where
  pub hard : HaveTheirCapacity written.capacity written.hard
  pub soft : HaveTheirCapacity written.capacity written.soft
  pub reclaims : ReclaimsHaveTheirCapacity written.capacity written.reclaims

-- a threshold has this limit and this reclaim
pub record IsBuiltOf (limit : Option Limit) (reclaim : Limit) (threshold : Threshold) : Type 0 where
  pub has_limit : limit ≡ Some threshold.limit
  pub has_reclaim : reclaim ≡ threshold.reclaim

-- it has the thresholds of its signal
abbrev pub IsBuiltFor : BySignal (Option Limit) → BySignal Limit → Signal → Threshold → Type 0
IsBuiltFor limits reclaims signal threshold = IsBuiltOf (of limits signal) (of reclaims signal) threshold

abbrev pub AreBuiltOf : BySignal (Option Limit) → BySignal Limit → BySignal (Option Threshold) → Type 0
AreBuiltOf limits reclaims thresholds = (signal : Signal) (threshold : Threshold) →
    of thresholds signal ≡ Some threshold → IsBuiltFor limits reclaims signal threshold
