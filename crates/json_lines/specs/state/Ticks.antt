-- A tick line by itself.
use Rattle.std.specs.Prelude.{ℕ, Bool, false, List, Option, Some, None, option_and_then, bytes_eq, codes}
use Rattle.serde_json.specs.Data.{Data}
use Rattle.serde_json.specs.Find.{as_number, as_u64}
use Rattle.json_fields.specs.rule.Fields.{field_at, text_at}

abbrev pub is_tick_kind : Option (List ℕ) → Bool
is_tick_kind None = false
is_tick_kind (Some kind) = bytes_eq kind (codes "tick")

-- the value is a tick by its kind
abbrev pub is_tick : Data → Bool
is_tick d = is_tick_kind (text_at (codes "kind") d)

-- the whole number that is found
abbrev pub moment_written : Option Data → Option ℕ
moment_written found = option_and_then as_u64 (option_and_then as_number found)

-- the whole number that the line gives as its moment
abbrev pub moment_at : Data → Option ℕ
moment_at d = moment_written (field_at (codes "at") d)
