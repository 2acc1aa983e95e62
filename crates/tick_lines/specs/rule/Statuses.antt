-- The statuses of conditions, as a JSON object has them (this project's extended format; Kubernetes, "Pod Lifecycle",
-- "Pod readiness").
use Rattle.std.specs.Prelude.{ℕ, ◌&&◌, ◌||◌, Bool, true, false, List, [], ◌∷◌, Option, Some, None, is_some}
use Rattle.std.specs.Prelude.{if◌then◌else◌, bytes_eq}
use Rattle.serde_json.specs.Data.{Data, Members, no_members, member}
use Rattle.serde_json.specs.Find.{as_bool, as_null, as_object}

-- true, false or null
abbrev pub is_status : Data → Bool
is_status d = is_some (as_null d) || is_some (as_bool d)

abbrev pub are_all_statuses : Members → Bool
are_all_statuses no_members = true
are_all_statuses (member name d ms) = is_status d && are_all_statuses ms

abbrev pub are_statuses_in : Option Members → Bool
are_statuses_in None = false
are_statuses_in (Some ms) = are_all_statuses ms

-- an object of true, false and null
abbrev pub are_statuses : Data → Bool
are_statuses d = are_statuses_in (as_object d)

-- the statuses that the members give, in the members' order; null gives none
abbrev pub statuses_in : Members → List (List ℕ × Option Bool)
statuses_in no_members = []
statuses_in (member name d ms) = (name, as_bool d) ∷ statuses_in ms

abbrev pub statuses_from : Option Members → List (List ℕ × Option Bool)
statuses_from None = []
statuses_from (Some ms) = statuses_in ms

-- the status of the condition of this type, if there is one
abbrev pub status_of : List (List ℕ × Option Bool) → List ℕ → Option Bool
status_of [] name = None
status_of (status ∷ statuses) name = if bytes_eq name status.0 then status.1 else status_of statuses name
