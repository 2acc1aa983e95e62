-- The samples of the node's signals in a tick line (Kubernetes, "Node-pressure Eviction", "Eviction
-- signals").
use Rattle.std.specs.Prelude.{ℕ, Option, Result}
use Rattle.serde_json.specs.Data.{Data}
use Rattle.json_fields.specs.declared.scope.Scope.{Scope}
use Rattle.json_fields.specs.rule.SignalMaps.{read_map}
use Rattle.signals.specs.declared.by_signal.BySignal.{BySignal}
use Rattle.tick_lines.specs.declared.fault.TickLineFault.{TickLineFault}
use Rattle.tick_lines.specs.declared.fault.TickLineFault.TheVariants.{Usage}
use Rattle.tick_lines.specs.rule.Fields.{quantity_at}

-- each signal's sample, in thousandths of bytes, of inodes or of processes, in an object that may be
-- left out
abbrev pub samples_of : Scope → Option Data → Result (BySignal (Option ℕ)) TickLineFault
samples_of scope found = read_map scope Usage (λ signal. quantity_at) found
