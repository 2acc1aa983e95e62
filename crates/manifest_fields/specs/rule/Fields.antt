-- Fields of a manifest: the value of each, or its fault.
use Rattle.std.specs.Prelude.{ℕ, ⊤, Bool, List, [], ◌∷◌, Option, Some, None, is_some, if◌then◌else◌, Result, Ok, Err}
use Rattle.serde_json.specs.Data.{Data, Items}
use Rattle.serde_json.specs.Find.{as_object, as_array, as_str}
use Rattle.json_fields.specs.rule.Fields.{items_list}
use Rattle.json_fields.specs.rule.Reading.{refused_if}
use Rattle.manifest_fields.specs.declared.fault.Field.{Field}
use Rattle.manifest_fields.specs.declared.fault.ManifestFault.{ManifestFault}
use Rattle.manifest_fields.specs.declared.fault.ManifestFault.TheVariants.{Missing, WrongKind}

-- a required object
abbrev pub object_of : Field → Option Data → Result Data ManifestFault
object_of field None = Err (Missing field)
object_of field (Some d) = if is_some (as_object d) then Ok d else Err (WrongKind field)

-- a text that passes the test
abbrev pub tested_text : (List ℕ → Bool) → Field → Option (List ℕ) → Result (List ℕ) ManifestFault
tested_text test field None = Err (WrongKind field)
tested_text test field (Some s) = if test s then Ok s else Err (WrongKind field)

abbrev pub text_of : (List ℕ → Bool) → Field → Data → Result (List ℕ) ManifestFault
text_of test field d = tested_text test field (as_str d)

-- a required text
abbrev pub required_text : (List ℕ → Bool) → Field → Option Data → Result (List ℕ) ManifestFault
required_text test field None = Err (Missing field)
required_text test field (Some d) = text_of test field d

-- a text that may be left out
abbrev pub text_or : List ℕ → (List ℕ → Bool) → Field → Option Data → Result (List ℕ) ManifestFault
text_or default test field None = Ok default
text_or default test field (Some d) = text_of test field d

abbrev pub items_or : Field → Option Items → Result (List Data) ManifestFault
items_or field None = Err (WrongKind field)
items_or field (Some items) = Ok (items_list items)

-- a required array
abbrev pub array_of : Field → Option Data → Result (List Data) ManifestFault
array_of field None = Err (Missing field)
array_of field (Some d) = items_or field (as_array d)

-- an array that may be left out
abbrev pub array_or_none : Field → Option Data → Result (List Data) ManifestFault
array_or_none field None = Ok []
array_or_none field (Some d) = array_of field (Some d)

-- an array must have an item
abbrev pub some_items : Field → List Data → Result (List Data) ManifestFault
some_items field [] = Err (Missing field)
some_items field (d ∷ ds) = Ok (d ∷ ds)

-- a field that must be absent
abbrev pub absent : ManifestFault → Option Data → Result ⊤ ManifestFault
absent fault found = refused_if (is_some found) fault
