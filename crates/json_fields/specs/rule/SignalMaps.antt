-- Maps from the names of signals (Kubernetes, "Kubelet Configuration": `evictionHard`, `evictionSoft`,
-- `evictionSoftGracePeriod` and `evictionMinimumReclaim`; "Node-pressure Eviction", "Eviction signals").
use Rattle.std.specs.Prelude.{ℕ, Bool, true, false, not, List, Option, Some, None, option_and_then}
use Rattle.std.specs.Prelude.{Result, Ok}
use Rattle.serde_json.specs.Data.{Data, Members}
use Rattle.serde_json.specs.Find.{as_object}
use Rattle.json_fields.specs.rule.Fields.{field_at}
use Rattle.json_fields.specs.rule.Strangers.{has_stranger as has_other}
use Rattle.json_fields.specs.rule.Reading.{◌>>=◌, refused_if}
use Rattle.signals.specs.rule.BySignal.{among, for_each}
use Rattle.signals.specs.declared.by_signal.BySignal.{BySignal}
use Rattle.signals.specs.declared.signal.Signal.{Signal}
use Rattle.signals.specs.declared.signal.Signal.TheVariants.{MemoryAvailable, NodefsAvailable, ImagefsAvailable}
use Rattle.signals.specs.declared.signal.Signal.TheVariants.{NodefsInodesFree, ImagefsInodesFree, PidAvailable}
use Rattle.signals.specs.rule.Signals.{name_of, named, is_of_file_system}
use Rattle.json_fields.specs.declared.scope.Scope.{Scope}
use Rattle.json_fields.specs.declared.scope.Scope.TheVariants.{Node, FileSystems}

-- the signals that a map may name
abbrev pub includes : Scope → Signal → Bool
includes Node signal = true
includes FileSystems signal = is_of_file_system signal

abbrev pub includes_named : Scope → Option Signal → Bool
includes_named scope None = false
includes_named scope (Some signal) = includes scope signal

abbrev pub may_name : Scope → List ℕ → Bool
may_name scope name = includes_named scope (named name)

-- another name, with a value other than null
abbrev pub has_stranger : Scope → Members → Bool
has_stranger scope members = has_other (may_name scope) members

abbrev pub are_signals : Scope → Option Members → Bool
are_signals scope None = false
are_signals scope (Some members) = not (has_stranger scope members)

-- an object without strangers, or nothing
abbrev pub is_signal_map : Scope → Option Data → Bool
is_signal_map scope None = true
is_signal_map scope (Some d) = are_signals scope (as_object d)

-- what a map has of a signal
abbrev pub in_map : Option Data → Signal → Option Data
in_map found signal = option_and_then (field_at (name_of signal)) found

-- what is read for each signal, or the first fault
unfoldable pub read_each : {A E : Type 0} → (Signal → Result A E) → Result (BySignal A) E
read_each read = do
  memory ← read MemoryAvailable
  nodefs ← read NodefsAvailable
  imagefs ← read ImagefsAvailable
  nodefs_inodes ← read NodefsInodesFree
  imagefs_inodes ← read ImagefsInodesFree
  pid ← read PidAvailable
  Ok (for_each (among memory nodefs imagefs nodefs_inodes imagefs_inodes pid))

-- what is read of each signal in a map
abbrev pub read_in : {A E : Type 0} → (Signal → Option Data → Result A E) → Option Data → Result (BySignal A) E
read_in read found = read_each (λ signal. read signal (in_map found signal))

-- what is read of each signal in a map, or the given fault where this is no map from signals of the scope
unfoldable pub read_map : {A E : Type 0} → Scope → E → (Signal → Option Data → Result A E) → Option Data
    → Result (BySignal A) E
read_map scope fault read found = refused_if (not (is_signal_map scope found)) fault >>= λ signals_alone.
    read_in read found
