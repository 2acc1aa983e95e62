-- Whether a manifest can be read.
use Rattle.std.specs.Prelude.{ℕ, ◌||◌, ⊤, Bool, false, List, [], ◌∷◌, ◌++◌, map, Result, bytes_eq}
use Rattle.std.specs.List.{list_any}
use Rattle.serde_json.specs.Data.{Data}
use Rattle.json_fields.specs.rule.Reading.{refused_if}
use Rattle.manifest_fields.specs.declared.fault.ManifestFault.{ManifestFault}
use Rattle.manifest_fields.specs.declared.fault.ManifestFault.TheVariants.{DuplicateContainer}
use Rattle.manifest_reader.specs.state.Found.{name_in, has_double}

-- two of the values have one name
abbrev pub is_name_twice : {V : Type 0} → (V → List ℕ) → List V → Bool
is_name_twice name [] = false
is_name_twice name (v ∷ vs) = list_any (λ other. bytes_eq (name other) (name v)) vs || is_name_twice name vs

-- so too if others come after them
abbrev pub is_name_twice_before : {V : Type 0} → (V → List ℕ) → List V → List V → Bool
is_name_twice_before name [] behind = is_name_twice name behind
is_name_twice_before name (v ∷ vs) behind =
    (list_any (λ other. bytes_eq (name other) (name v)) vs || list_any (λ other. bytes_eq (name other) (name v)) behind)
    || is_name_twice_before name vs behind

-- no two items have one name
abbrev pub apart_at : List Data → List Data → Result ⊤ ManifestFault
apart_at init_items items = refused_if (has_double (map name_in (init_items ++ items))) DuplicateContainer
