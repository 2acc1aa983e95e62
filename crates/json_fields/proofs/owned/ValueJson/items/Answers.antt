use Rattle.json_fields.proofs.Items.{items_found}
use Rattle.json_fields.proofs.owned.ValueJson.items.Goals as goal

pub returns-in-Some : goal.returns-in-Some
returns-in-Some c = rw c.as_slice.ensures.value (items_found c.in-Some.list.now.items _ c.in-Some.ensures)
