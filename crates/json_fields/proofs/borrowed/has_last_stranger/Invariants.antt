use Rattle.std.proofs.Common.{◌≡◌, length}
use Rattle.json.specs.Value.{members_view}
use Rattle.json_fields.specs.state.Borrowed.{has_last_stranger}
use Rattle.json_fields.proofs.borrowed.has_last_stranger.Given as goal

abbrev pub decreases-loop-rest : goal.decreases-loop-rest
decreases-loop-rest g l = length l.rest

abbrev pub invariant-loop-rest : goal.invariant-loop-rest
invariant-loop-rest g l =
    has_last_stranger (g.N.MemberNames.includes l.names) (members_view l.rest)
    ≡ has_last_stranger (g.N.MemberNames.includes l.names) (members_view l.members)
