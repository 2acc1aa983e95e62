-- The same value for each signal.
use Rattle.signals.specs.declared.by_signal.BySignal.{BySignal}
use Rattle.signals.specs.rule.BySignal.{for_each}

-- the same value for each signal
abbrev pub every : {A : Type 0} → A → BySignal A
every value = for_each (λ signal. value)
