-- A member of a name that may not stand there refuses the line.
use Rattle.std.proofs.Common.{◌≡◌, ℕ, false, List, Option, Some, None, Result, Ok, Err, refl, ap}
use Rattle.std.specs.Prelude.{option_and_then, codes}
use Rattle.serde_json.specs.Data.{Data}
use Rattle.json_fields.specs.rule.Fields.{field_at}
use Rattle.json_fields.specs.rule.Reading.{◌>>=◌}
use Rattle.json_fields.proofs.Only.{Only}
use Rattle.signals.specs.rule.Signals.{named, is_of_file_system}
use Rattle.signals.specs.declared.signal.Signal.{Signal}
use Rattle.tick_lines.specs.declared.fault.TickLineFault.{TickLineFault}
use Rattle.tick_lines.specs.declared.fault.TickLineFault.TheVariants.{Usage}
use Rattle.json_fields.specs.declared.scope.Scope.{Scope}
use Rattle.json_fields.specs.declared.scope.Scope.TheVariants.{Node, FileSystems}
use Rattle.tick_lines.specs.rule.Entries.{entries_of}
use Rattle.json_fields.specs.rule.SignalMaps.{includes_named, may_name}
use Rattle.json_fields.proofs.SignalMapStrangers.{map_refused}
use Rattle.tick_lines.specs.rule.Fields.{quantity_at}
use Rattle.tick_lines.specs.rule.Samples.{samples_of}
use Rattle.tick_lines.specs.rule.Line.{tick_line_of}
use Rattle.tick_lines.specs.state.Laws.{OnlySignals}
use Rattle.tick_lines.proofs.OnlyUsage.{IsUsageFault, entries_only, samples_only}

-- the fault of a later step is the answer where each earlier step has the same fault alone
later_refused : {A B : Type 0} (r : Result A TickLineFault) (f : A → Result B TickLineFault) → Only IsUsageFault r
    → ((x : A) → f x ≡ Err Usage) → (r >>= f) ≡ Err Usage
later_refused (Ok x) f only later = later x
later_refused (Err fault) f only later = ap Err (only.has fault refl)

first_refused : {A B : Type 0} (r : Result A TickLineFault) (f : A → Result B TickLineFault) → r ≡ Err Usage
    → (r >>= f) ≡ Err Usage
first_refused r f e = rw e refl

signals_refused : (d : Data) → samples_of Node (field_at (codes "signals") d) ≡ Err Usage → tick_line_of d ≡ Err Usage
unfolding tick_line_of
signals_refused d e = later_refused (entries_of (field_at (codes "pods") d)) _ (entries_only _)
    (λ entries. first_refused _ _ e)

after_refused : (d : Data) → samples_of FileSystems (field_at (codes "afterReclaim") d) ≡ Err Usage
    → tick_line_of d ≡ Err Usage
unfolding tick_line_of
after_refused d e =
    later_refused (entries_of (field_at (codes "pods") d)) _ (entries_only _) (λ entries.
    later_refused (samples_of Node (field_at (codes "signals") d)) _ (samples_only Node _)
    (λ signals. first_refused _ _ e))

found_refused : (scope : Scope) (found : Option Data) (value : Data) (name : List ℕ)
    → option_and_then (field_at name) found ≡ Some value → may_name scope name ≡ false
    → samples_of scope found ≡ Err Usage
found_refused scope found value name has other =
    map_refused scope Usage (λ signal. quantity_at) found value name has other

no_file_system : (found : Option Signal)
    → ((signal : Signal) → found ≡ Some signal → is_of_file_system signal ≡ false)
    → includes_named FileSystems found ≡ false
no_file_system None none = refl
no_file_system (Some signal) none = none signal refl

pub only_signals : OnlySignals
only_signals = record {
  signals = λ d name has none. signals_refused d
      (found_refused Node _ has.0 name has.1 (ap (includes_named Node) none));
  after_reclaim = λ d name has none. after_refused d
      (found_refused FileSystems _ has.0 name has.1 (no_file_system (named name) none));
}
