use Rattle.std.proofs.Common.{refl}
use Rattle.json_fields.proofs.OnTape.{one_member_read, all_members_read}
use Rattle.json_fields.proofs.tape.flat_object.Goals as goal

pub loop-name-init : goal.loop-name-init
loop-name-init g c ms inside = (ms, inside, rw c.new-all.ensures.items refl)

pub loop-name-preserved : goal.loop-name-preserved
loop-name-preserved g c ms inside =
    rw c.in_ok-push.ensures.items
    (one_member_read c.loop-name.members c.next.new.self c.in-Some.element c.loop-name.all.items c.in-Some.name
    c.in-Some-scalar_of.value ms (c.loop-name.invariant ms inside) c.in-Some.ensures.value c.in-Some-scalar_of.ensures)

pub returns : goal.returns
returns g c ms inside =
    all_members_read c.loop-name.members c.next.new.self c.loop-name.all ms (c.loop-name.invariant ms inside)
    c.in_default.ensures.value
