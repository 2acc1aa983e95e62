use Rattle.std.proofs.Common.{Some, None}
use Rattle.json.specs.Find.{get}
use Rattle.json_fields.proofs.OnTape.{found_member, value_found}
use Rattle.json_fields.proofs.tape.TapeValue.member.Goals as goal

pub invariant_of-result : goal.invariant_of-result
invariant_of-result c =
    value_found c.self.inside.element c.in-Some.element (get c.args.name.now) c.self.invariant c.in-Some.ensures

pub returns-in-Some : goal.returns-in-Some
returns-in-Some c = rw (← c.self.view_is)
    (found_member c.args.name.now c.self.inside.element (Some c.in-Some.element) c.self.invariant c.in-Some.ensures)

pub returns-in-None : goal.returns-in-None
returns-in-None c = rw (← c.self.view_is)
    (found_member c.args.name.now c.self.inside.element None c.self.invariant c.in-None.ensures)
