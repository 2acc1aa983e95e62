use Rattle.std.proofs.Common.{Some, None}
use Rattle.json_fields.proofs.OnMembers.{fields_left, members_inside}
use Rattle.json_fields.proofs.OnTape.{found_object}
use Rattle.json_fields.proofs.tape.TapeValue.members.Goals as goal

pub invariant_of-result : goal.invariant_of-result
invariant_of-result c = members_inside c.self.inside.element c.in-Some.members c.self.invariant c.in-Some.ensures

pub returns-in-Some-clause-some : goal.returns-in-Some-clause-some
returns-in-Some-clause-some c = rw (← c.self.view_is)
    (fields_left c.self.inside.element c.in-Some.members c.self.invariant c.in-Some.ensures)

pub returns-in-Some-clause-object : goal.returns-in-Some-clause-object
returns-in-Some-clause-object c = rw (← c.self.view_is)
    (found_object c.self.inside.element (Some c.in-Some.members) c.self.invariant c.in-Some.ensures)

pub returns-in-None-clause-object : goal.returns-in-None-clause-object
returns-in-None-clause-object c = rw (← c.self.view_is)
    (found_object c.self.inside.element None c.self.invariant c.in-None.ensures)
