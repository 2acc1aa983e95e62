-- The member of an entry that gives the statuses of a pod's conditions (this project's extended format).
use Rattle.std.specs.Prelude.{Option, Some, None, if◌then◌else◌}
use Rattle.serde_json.specs.Data.{Data}
use Rattle.serde_json.specs.Find.{as_object}
use Rattle.tick_lines.specs.declared.conditions.ConditionsMember.{ConditionsMember}
use Rattle.tick_lines.specs.declared.conditions.ConditionsMember.TheVariants as members
use Rattle.tick_lines.specs.rule.Statuses.{are_statuses, statuses_from}

-- the content of the member: any other value is kept apart, and nothing here rejects it
abbrev pub conditions_of : Option Data → ConditionsMember
conditions_of None = members.Missing
conditions_of (Some d) = if are_statuses d then members.Statuses (statuses_from (as_object d)) else members.OfOtherKind
