use Rattle.std.proofs.Common.{length}
use Rattle.json.specs.Json.{Members}
use Rattle.json.specs.Find.{InMembers}
use Rattle.json_fields.proofs.OnTape.{AreRead}
use Rattle.json_fields.proofs.tape.flat_object.Given as goal

abbrev pub invariant-loop-name : goal.invariant-loop-name
invariant-loop-name g l = (ms : Members) → InMembers l.fn.members ms → AreRead l.members l.all.items ms

abbrev pub decreases-loop-name : goal.decreases-loop-name
decreases-loop-name g l = length l.members
