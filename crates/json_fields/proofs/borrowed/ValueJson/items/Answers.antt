use Rattle.std.proofs.Common.{Some, ap}
use Rattle.json.proofs.Trees.{view-Array}
use Rattle.json_fields.proofs.Plain.{items_data_view}
use Rattle.json_fields.proofs.borrowed.ValueJson.items.Goals as goal

pub returns-in-Array : goal.returns-in-Array
returns-in-Array g c = rw (c.as_slice.ensures.value, c.in-Array.is, view-Array c.in-Array.items)
    (ap Some (items_data_view c.in-Array.items.items))
