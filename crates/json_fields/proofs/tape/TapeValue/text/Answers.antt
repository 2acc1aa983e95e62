use Rattle.std.proofs.Common.{option_map}
use Rattle.json_fields.proofs.OnTape.{found_text}
use Rattle.json_fields.proofs.tape.TapeValue.text.Goals as goal

pub returns : goal.returns
returns c = rw (← c.self.view_is)
    (found_text c.self.inside.element (option_map (λ s. s.now) c.as_str.result) c.self.invariant c.as_str.ensures)
