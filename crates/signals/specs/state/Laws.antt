-- The statements of the laws.
use Rattle.std.specs.Prelude.{◌≡◌, ℕ, List, Some}
use Rattle.signals.specs.declared.signal.Signal.{Signal}
use Rattle.signals.specs.rule.Signals.{name_of, named}

abbrev pub NameNamesItsSignal : Type 0
NameNamesItsSignal = (signal : Signal) → named (name_of signal) ≡ Some signal

abbrev pub NamedSignalHasTheName : Type 0
NamedSignalHasTheName = (name : List ℕ) (signal : Signal) → named name ≡ Some signal → name_of signal ≡ name
