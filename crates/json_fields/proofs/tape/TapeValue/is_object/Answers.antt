use Rattle.json_fields.proofs.OnTape.{found_object}
use Rattle.json_fields.proofs.tape.TapeValue.is_object.Goals as goal

pub returns : goal.returns
returns c = rw (← c.self.view_is, c.is_some.ensures)
    (found_object c.self.inside.element c.members.result c.self.invariant c.members.ensures)
