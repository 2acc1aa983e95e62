use Rattle.std.proofs.Common.{◌≡◌}
use Rattle.serde_json.specs.View.{members_view}
use Rattle.tick_lines.specs.rule.Statuses.{are_all_statuses}
use Rattle.tick_lines.proofs.conditions.are_all_statuses.Given as goal

abbrev pub invariant-loop-name : goal.invariant-loop-name
invariant-loop-name l =
    are_all_statuses (members_view l.fn.members.entries) ≡ are_all_statuses (members_view l.name-iterator)
