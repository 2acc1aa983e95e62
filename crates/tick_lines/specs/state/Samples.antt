-- The samples of the node's signals, as they are read of a map that may be missing.
use Rattle.std.specs.Prelude.{ℕ, Option, Some, Result}
use Rattle.serde_json.specs.Data.{Data}
use Rattle.json_fields.specs.declared.scope.Scope.{Scope}
use Rattle.signals.specs.declared.by_signal.BySignal.{BySignal}
use Rattle.tick_lines.specs.declared.fault.TickLineFault.{TickLineFault}
use Rattle.tick_lines.specs.rule.Samples.{samples_of}

abbrev pub samples_in : Scope → Data → Result (BySignal (Option ℕ)) TickLineFault
samples_in scope d = samples_of scope (Some d)
