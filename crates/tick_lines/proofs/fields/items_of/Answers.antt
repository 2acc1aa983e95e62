use Rattle.tick_lines.proofs.Found.{items_found}
use Rattle.tick_lines.proofs.fields.items_of.Goals as goal

pub returns-in-Some-items : goal.returns-in-Some-items
returns-in-Some-items g c = rw c.in-Some.is (items_found _ _ c.in-Some-items.ensures)
