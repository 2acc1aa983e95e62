use Rattle.json_fields.proofs.OnTape.{scalar_found}
use Rattle.json_fields.proofs.tape.TapeValue.scalar.Goals as goal

pub returns : goal.returns
returns g c = rw (← c.self.view_is)
    (scalar_found c.self.inside.element c.scalar_of.result c.self.invariant c.scalar_of.ensures)
