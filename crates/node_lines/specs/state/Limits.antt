-- Limits and reclaims whose percentages are of a capacity that is known.
use Rattle.std.specs.Prelude.{◌≡◌, ℕ, Option, Some}
use Rattle.quantity.specs.state.Limit.{HasItsCapacity}
use Rattle.quantity.specs.declared.limit.Limit.{Limit}
use Rattle.signals.specs.declared.by_signal.BySignal.{BySignal}
use Rattle.signals.specs.declared.signal.Signal.{Signal}
use Rattle.signals.specs.rule.BySignal.{of}

-- each percentage among these limits has its signal's capacity
abbrev pub HaveTheirCapacity : BySignal (Option ℕ) → BySignal (Option Limit) → Type 0
HaveTheirCapacity capacity limits = (signal : Signal) (limit : Limit) →
    of limits signal ≡ Some limit → HasItsCapacity (of capacity signal) limit

abbrev pub ReclaimsHaveTheirCapacity : BySignal (Option ℕ) → BySignal Limit → Type 0
ReclaimsHaveTheirCapacity capacity reclaims = (signal : Signal)
    → HasItsCapacity (of capacity signal) (of reclaims signal)
