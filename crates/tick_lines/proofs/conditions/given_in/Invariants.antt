use Rattle.std.proofs.Common.{◌≡◌, drop}
use Rattle.json.specs.Value.{members_view as borrowed_members_view}
use Rattle.serde_json.specs.Data.{no_members}
use Rattle.tick_lines.specs.state.Conditions.{members_statuses, given_members}
use Rattle.tick_lines.proofs.conditions.given_in.Given as goal

abbrev pub invariant-loop-member : goal.invariant-loop-member
invariant-loop-member g l =
    members_statuses (borrowed_members_view (drop l.member-index l.members)) (given_members l.noted.entries)
    ≡ members_statuses (borrowed_members_view l.members) no_members
