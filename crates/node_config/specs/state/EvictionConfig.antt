-- Thresholds whose percentages are of a capacity that is known.
use Rattle.std.specs.Prelude.{◌≡◌, ℕ, Option, Some}
use Rattle.quantity.specs.state.Limit.{HasItsCapacity}
use Rattle.signals.specs.declared.by_signal.BySignal.{BySignal}
use Rattle.signals.specs.declared.signal.Signal.{Signal}
use Rattle.signals.specs.declared.threshold.Threshold.{Threshold}
use Rattle.signals.specs.rule.BySignal.{of}

-- a percentage of a threshold has its signal's capacity
pub record HasCapacity (capacity : Option ℕ) (threshold : Threshold) : Type 0 where
  pub limit : HasItsCapacity capacity threshold.limit
  pub reclaim : HasItsCapacity capacity threshold.reclaim

-- each percentage among these thresholds has
abbrev pub HaveCapacities : BySignal (Option ℕ) → BySignal (Option Threshold) → Type 0
HaveCapacities capacity thresholds = (signal : Signal) (threshold : Threshold) → of thresholds signal ≡ Some threshold
    → HasCapacity (of capacity signal) threshold
