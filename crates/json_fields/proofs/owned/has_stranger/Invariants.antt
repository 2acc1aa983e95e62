use Rattle.std.proofs.Common.{◌≡◌}
use Rattle.serde_json.specs.View.{members_view}
use Rattle.json_fields.specs.rule.Strangers.{has_stranger}
use Rattle.json_fields.proofs.owned.has_stranger.Given as goal

abbrev pub invariant-loop-name : goal.invariant-loop-name
invariant-loop-name g l =
    has_stranger (g.N.MemberNames.includes l.names) (members_view l.fn.members.entries)
    ≡ has_stranger (g.N.MemberNames.includes l.names) (members_view l.name-iterator)
