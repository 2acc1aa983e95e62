-- What a reader found, in the words of the definitions.
use Rattle.std.proofs.Common.{◌≡◌, List, Option, Some, None, Ok, option_map}
use Rattle.serde_json.specs.Data.{Data, Items}
use Rattle.json_fields.specs.rule.Fields.{items_list}
use Rattle.tick_lines.specs.rule.Fields.{items_from}

pub items_found : (ds : List Data) (found : Option Items) → Some ds ≡ option_map items_list found
    → items_from found ≡ Ok ds
items_found ds None e = absurd (cc)
items_found ds (Some items) e = cc
