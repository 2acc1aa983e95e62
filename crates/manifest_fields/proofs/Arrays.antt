-- An array that was found.
use Rattle.std.proofs.Common.{◌≡◌, List, map, Option, Some, Ok, ap}
use Rattle.serde_json.specs.Data.{Items}
use Rattle.serde_json.specs.View.{view, items_view}
use Rattle.serde_json.specs.declared.value.Value.{Value}
use Rattle.json_fields.proofs.Items.{items_list-items_of}
use Rattle.manifest_fields.specs.declared.fault.Field.{Field}
use Rattle.manifest_fields.specs.rule.Fields.{items_or}

-- it is the list of its items
pub items_or_found : (field : Field) (vs : List Value) (found : Option Items) → Some (items_view vs) ≡ found
    → items_or field found ≡ Ok (map view vs)
items_or_found field vs found e = rw (← e) (ap Ok (items_list-items_of (map view vs)))
