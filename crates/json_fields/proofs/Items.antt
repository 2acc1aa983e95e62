-- The items of an array as a list.
use Rattle.std.proofs.Common.{◌≡◌, List, [], ◌∷◌, map, Option, Some, option_map, refl, sym, ap}
use Rattle.serde_json.specs.Data.{Data, Items}
use Rattle.serde_json.specs.View.{view, items_of, items_view}
use Rattle.serde_json.specs.declared.value.Value.{Value}
use Rattle.json_fields.specs.rule.Fields.{items_list}

pub items_list-items_of : (ds : List Data) → items_list (items_of ds) ≡ ds
items_list-items_of [] = refl
items_list-items_of (d ∷ ds) = ap (λ (xs : List Data). d ∷ xs) (items_list-items_of ds)

pub items_found : (vs : List Value) (found : Option Items) → Some (items_view vs) ≡ found
    → Some (map view vs) ≡ option_map items_list found
items_found vs found e = rw (← e) (ap Some (sym (items_list-items_of (map view vs))))
