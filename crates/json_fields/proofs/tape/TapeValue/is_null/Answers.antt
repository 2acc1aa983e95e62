use Rattle.json_fields.proofs.OnTape.{found_null}
use Rattle.json_fields.proofs.tape.TapeValue.is_null.Goals as goal

pub returns : goal.returns
returns c = rw (← c.self.view_is) (found_null c.self.inside.element c.is_null.result c.self.invariant c.is_null.ensures)
