-- Fields of a tick line, all of which have one fault.
use Rattle.std.specs.Prelude.{ℕ, ⊤, List, [], ◌∷◌, bytes_eq, Option, Some, None, is_some, if◌then◌else◌}
use Rattle.std.specs.Prelude.{Result, Ok, Err}
use Rattle.serde_json.specs.Data.{Data, Items}
use Rattle.serde_json.specs.Find.{as_array, as_object}
use Rattle.json_fields.specs.rule.Fields.{items_list}
use Rattle.json_fields.specs.rule.Reading.{◌>>=◌, each}
use Rattle.json_fields.specs.rule.Quantities.{quantity_or}
use Rattle.tick_lines.specs.declared.fault.TickLineFault.{TickLineFault}
use Rattle.tick_lines.specs.declared.fault.TickLineFault.TheVariants.{Usage}

abbrev pub items_from : Option Items → Result (List Data) TickLineFault
items_from None = Err Usage
items_from (Some items) = Ok (items_list items)

-- the items of an array that may be left out
abbrev pub items_of : Option Data → Result (List Data) TickLineFault
items_of None = Ok []
items_of (Some d) = items_from (as_array d)

-- what f reads of the items of an array that may be left out, in order
abbrev pub each_item : {A : Type 0} → (Data → Result A TickLineFault) → Option Data → Result (List A) TickLineFault
each_item f found = items_of found >>= each f

abbrev pub only_object : Data → Result ⊤ TickLineFault
only_object d = if is_some (as_object d) then Ok tt else Err Usage

-- a quantity that may be left out, in thousandths
abbrev pub quantity_at : Option Data → Result (Option ℕ) TickLineFault
quantity_at found = quantity_or Usage found

-- the value of a name in a table
abbrev pub value_named : {A : Type 0} → List (List ℕ × A) → List ℕ → Result A TickLineFault
value_named [] name = Err Usage
value_named (row ∷ rows) name = if bytes_eq name row.0 then Ok row.1 else value_named rows name
