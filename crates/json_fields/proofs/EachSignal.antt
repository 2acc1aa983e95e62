-- What is known of each signal once a map was read.
use Rattle.std.proofs.Common.{◌≡◌, Option, Result, Ok, subst}
use Rattle.std.specs.Prelude.{not}
use Rattle.serde_json.specs.Data.{Data}
use Rattle.json_fields.specs.rule.Reading.{refused_if}
use Rattle.json_fields.proofs.Steps.{bind_ok}
use Rattle.json_fields.proofs.Only.{same_value}
use Rattle.signals.specs.declared.by_signal.BySignal.{BySignal}
use Rattle.signals.specs.declared.signal.Signal.{Signal}
use Rattle.signals.specs.declared.signal.Signal.TheVariants.{MemoryAvailable, NodefsAvailable, ImagefsAvailable}
use Rattle.signals.specs.declared.signal.Signal.TheVariants.{NodefsInodesFree, ImagefsInodesFree, PidAvailable}
use Rattle.signals.specs.rule.BySignal.{of}
use Rattle.json_fields.specs.declared.scope.Scope.{Scope}
use Rattle.json_fields.specs.rule.SignalMaps.{is_signal_map, in_map, read_each, read_map}

-- what was read for each signal was read for this one
pub each_read : {A E : Type 0} (read : Signal → Result A E) (all : BySignal A) → read_each read ≡ Ok all
    → (signal : Signal) → read signal ≡ Ok (of all signal)
unfolding read_each
each_read {E = E} read all e signal =
    let a = bind_ok (read MemoryAvailable) _ all e in
    let b = bind_ok (read NodefsAvailable) _ all a.2 in
    let c = bind_ok (read ImagefsAvailable) _ all b.2 in
    let d = bind_ok (read NodefsInodesFree) _ all c.2 in
    let f = bind_ok (read ImagefsInodesFree) _ all d.2 in
    let g = bind_ok (read PidAvailable) _ all f.2 in
    let same = same_value {E = E} _ all g.2 in
    let P : BySignal _ → Type 0 = λ values. read signal ≡ Ok (of values signal) in
    subst P same (elim signal as (λ s. read s ≡ Ok (of (record {
      memory_available = a.0;
      nodefs_available = b.0;
      imagefs_available = c.0;
      nodefs_inodes_free = d.0;
      imagefs_inodes_free = f.0;
      pid_available = g.0;
    }) s)) [
      | MemoryAvailable ↦ a.1
      | NodefsAvailable ↦ b.1
      | ImagefsAvailable ↦ c.1
      | NodefsInodesFree ↦ d.1
      | ImagefsInodesFree ↦ f.1
      | PidAvailable ↦ g.1
    ])

pub map_read : {A E : Type 0} (scope : Scope) (fault : E) (read : Signal → Option Data → Result A E)
    (found : Option Data) (all : BySignal A) → read_map scope fault read found ≡ Ok all
    → (signal : Signal) → read signal (in_map found signal) ≡ Ok (of all signal)
unfolding read_map
map_read scope fault read found all e signal =
    let a = bind_ok (refused_if (not (is_signal_map scope found)) fault) _ all e in
    each_read (λ s. read s (in_map found s)) all a.2 signal
