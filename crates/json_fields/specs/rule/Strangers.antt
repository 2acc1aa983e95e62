-- Members that an object should not have.
use Rattle.std.specs.Prelude.{ℕ, ◌&&◌, ◌||◌, Bool, false, not, List, is_some}
use Rattle.serde_json.specs.Data.{Data, Members, no_members, member}
use Rattle.serde_json.specs.Find.{as_null}

-- another name, with a value other than null
abbrev pub is_stranger : (List ℕ → Bool) → List ℕ → Data → Bool
is_stranger includes name d = not (is_some (as_null d)) && not (includes name)

abbrev pub has_stranger : (List ℕ → Bool) → Members → Bool
has_stranger includes no_members = false
has_stranger includes (member name d members) = is_stranger includes name d || has_stranger includes members
