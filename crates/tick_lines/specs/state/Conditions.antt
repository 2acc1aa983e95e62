-- The statuses of conditions, member by member.
use Rattle.std.specs.Prelude.{ℕ, Bool, List, [], map, Option, Some, None, String, if◌then◌else◌}
use Rattle.std.specs.Global.{Global}
use Rattle.json.specs.Json as json
use Rattle.serde_json.specs.Data.{Data, null, boolean, number, string, array, object, Members, put}
use Rattle.json_fields.specs.state.Borrowed.{data_of}
use Rattle.serde_json.specs.Find.{as_object}
use Rattle.serde_json.specs.View.{members_of}
use Rattle.tick_lines.specs.rule.Statuses.{are_all_statuses, are_statuses, statuses_in, statuses_from}

-- true, false and null as they are, and a text for any other value
abbrev pub status_data : Data → Data
status_data null = null
status_data (boolean b) = boolean b
status_data (number n) = string []
status_data (string s) = string []
status_data (array ds) = string []
status_data (object ms) = string []

-- the members' statuses go in one after another, so the last one of a name stays
abbrev pub members_statuses : json.Members → Members → Members
members_statuses json.no_members found = found
members_statuses (json.member k j ms) found = members_statuses ms (put k (status_data (data_of j)) found)

-- the same of what the code notes: nothing stands for any other value
abbrev pub given_data : Option (Option Bool) → Data
given_data None = string []
given_data (Some None) = null
given_data (Some (Some b)) = boolean b

abbrev pub given_members : List (String Global × Option (Option Bool)) → Members
given_members es = members_of (map (λ e. (e.0, given_data e.1)) es)

-- the statuses that the members give, if each of them gives one
abbrev pub all_statuses : Members → Option (List (List ℕ × Option Bool))
all_statuses ms = if are_all_statuses ms then Some (statuses_in ms) else None

-- the statuses that a value gives, if it is an object of true, false and null
abbrev pub if_statuses : Data → Option (List (List ℕ × Option Bool))
if_statuses d = if are_statuses d then Some (statuses_from (as_object d)) else None
