use Rattle.json_fields.proofs.OnTape.{object_found}
use Rattle.json_fields.proofs.tape.TapeValue.flat.Goals as goal

pub returns-in-Some : goal.returns-in-Some
returns-in-Some g c = rw (← c.self.view_is)
    (object_found c.self.inside.element c.in-Some.members c.flat_object.result c.self.invariant c.in-Some.ensures
    c.flat_object.ensures)
