-- The fields of an object. A field with the value null counts as absent.
use Rattle.std.specs.Prelude.{ℕ, List, [], ◌∷◌, Option, Some, None, is_some, option_and_then, if◌then◌else◌}
use Rattle.serde_json.specs.Data.{Data, Items, no_items, item}
use Rattle.serde_json.specs.Find.{get, as_null, as_str}

abbrev pub present : Option Data → Option Data
present None = None
present (Some d) = if is_some (as_null d) then None else Some d

-- the field's value
abbrev pub field_at : List ℕ → Data → Option Data
field_at name d = present (get name d)

-- the text in a field
abbrev pub text_at : List ℕ → Data → Option (List ℕ)
text_at name d = option_and_then as_str (field_at name d)

-- the items of an array, in order
abbrev pub items_list : Items → List Data
items_list no_items = []
items_list (item d ds) = d ∷ items_list ds
