use Rattle.std.proofs.Common.{Some, None}
use Rattle.json_fields.proofs.OnTape.{found_items, items_inside}
use Rattle.json_fields.proofs.tape.TapeValue.items.Goals as goal

pub invariant_of-result : goal.invariant_of-result
invariant_of-result c = items_inside c.self.inside.element c.in-Some.items c.self.invariant c.in-Some.ensures

pub returns-in-Some : goal.returns-in-Some
returns-in-Some c = rw (← c.self.view_is)
    (found_items c.self.inside.element (Some c.in-Some.items) c.self.invariant c.in-Some.ensures)

pub returns-in-None : goal.returns-in-None
returns-in-None c = rw (← c.self.view_is)
    (found_items c.self.inside.element None c.self.invariant c.in-None.ensures)
