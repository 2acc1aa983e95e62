use Rattle.std.proofs.Common.{◌≡◌, drop}
use Rattle.json.specs.Value.{members_view}
use Rattle.json_fields.specs.state.Borrowed.{has_name}
use Rattle.json_fields.proofs.borrowed.has_name.Given as goal

abbrev pub invariant-loop-member : goal.invariant-loop-member
invariant-loop-member g l =
    has_name l.name (members_view (drop l.member-index l.members)) ≡ has_name l.name (members_view l.members)
