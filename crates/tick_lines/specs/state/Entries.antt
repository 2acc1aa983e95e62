-- Entries of pods, one more at a time.
use Rattle.std.specs.Prelude.{◌++◌, List, [], ◌∷◌, Result, Ok}
use Rattle.serde_json.specs.Data.{Data}
use Rattle.json_fields.specs.rule.Reading.{◌>>=◌}
use Rattle.tick_lines.specs.declared.entry.TickEntry.{TickEntry}
use Rattle.tick_lines.specs.declared.fault.TickLineFault.{TickLineFault}
use Rattle.tick_lines.specs.rule.Entries.{entry_of}

-- the entries with one more
abbrev pub with_entry : List TickEntry → Data → Result (List TickEntry) TickLineFault
with_entry entries d = entry_of d >>= λ entry. Ok (entries ++ entry ∷ [])
