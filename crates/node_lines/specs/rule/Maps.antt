-- What the maps from signals of a kubelet's configuration hold (Kubernetes, "Kubelet Configuration":
-- `evictionHard`, `evictionSoft`, `evictionSoftGracePeriod` and `evictionMinimumReclaim`).
use Rattle.std.specs.Prelude.{ℕ, List, Option, Some, None, Result, Ok, Err}
use Rattle.serde_json.specs.Data.{Data}
use Rattle.serde_json.specs.Find.{as_str}
use Rattle.json_fields.specs.rule.Reading.{◌>>=◌, else_fault}
use Rattle.quantity.specs.rule.Duration.{duration_of}
use Rattle.json_fields.specs.rule.Quantities.{quantity_or}
use Rattle.json_fields.specs.declared.scope.Scope.TheVariants.{Node}
use Rattle.json_fields.specs.rule.SignalMaps.{read_map}
use Rattle.signals.specs.declared.by_signal.BySignal.{BySignal}
use Rattle.signals.specs.declared.signal.Signal.{Signal}
use Rattle.node_lines.specs.declared.fault.NodeFault.{NodeFault}
use Rattle.node_lines.specs.declared.fault.NodeFault.TheVariants.{Config}

-- what is read of each signal in a map, where no fault comes first
abbrev pub map_of : {A : Type 0} → (Signal → Option Data → Result A NodeFault) → Option Data
    → Result (BySignal A) NodeFault
map_of read found = read_map Node Config read found

-- what was read, else the fault of a node's configuration
abbrev pub or_config : {A E : Type 0} → Result A E → Result A NodeFault
or_config read = else_fault Config read

-- a quantity that may be left out, in thousandths
abbrev pub quantity_at : Option Data → Result (Option ℕ) NodeFault
quantity_at found = quantity_or Config found

abbrev pub duration_from : Option (List ℕ) → Result (Option ℕ) NodeFault
duration_from None = Err Config
duration_from (Some text) = or_config (duration_of text) >>= λ seconds. Ok (Some seconds)

-- a duration that may be left out, in seconds: a text alone
abbrev pub duration_at : Option Data → Result (Option ℕ) NodeFault
duration_at None = Ok None
duration_at (Some d) = duration_from (as_str d)
