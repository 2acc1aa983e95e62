use Rattle.std.proofs.Common.{◌≡◌, ◌++◌}
use Rattle.serde_json.specs.View.{members_view}
use Rattle.tick_lines.specs.rule.Statuses.{statuses_in}
use Rattle.tick_lines.proofs.conditions.statuses_of_members.Given as goal

abbrev pub invariant-loop-name : goal.invariant-loop-name
invariant-loop-name l =
    l.list.items ++ statuses_in (members_view l.name-iterator) ≡ statuses_in (members_view l.fn.members.entries)
