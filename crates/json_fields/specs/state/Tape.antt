-- The data of the tokens of a line, from the place of a value on.
use Rattle.std.specs.Prelude.{◌≡◌, ℕ, Result, Ok, ◌+◌, ◌-◌, ◌==◌, List, [], ◌∷◌, length, Bool, true, false, Option}
use Rattle.std.specs.Prelude.{Some, None}
use Rattle.std.specs.Prelude.{is_some, nat_lt, if◌then◌else◌}
use Rattle.std.specs.Str.{bytes_eq}
use Rattle.json.specs.Token.{Token, begin_object, end_object, begin_array, end_array, key, string, number, boolean, bad}
use Rattle.json.specs.Token as token
use Rattle.json.specs.Json as json
use Rattle.json.specs.Json.{Json, Items, value}
use Rattle.json.specs.Find.{InItems, InMembers}
use Rattle.serde_json.specs.Data.{Data, null}
use Rattle.serde_json.specs.Data as serde
use Rattle.serde_json.specs.Find.{as_array}
use Rattle.serde_json.specs.Read.{max_depth}
use Rattle.json_fields.specs.state.Borrowed.{data_of, whole}
use Rattle.json_fields.specs.rule.Fields.{items_list, present, field_at}

abbrev pub data_from : Option (Json × List Token) → Data
data_from None = null
data_from (Some p) = data_of p.0

-- the data of the value with which the tokens begin
unfoldable pub data_at : List Token → Data
data_at ts = data_from (value (length ts) ts)

abbrev pub listed : Option serde.Items → List Data
listed None = []
listed (Some items) = items_list items

-- the data of the items with which the tokens begin, up to the end of their array
unfoldable pub items_in : List Token → List Data
items_in ts = listed (as_array (data_at (begin_array ∷ ts)))

abbrev pub HasItems : List Token → Type 0
HasItems ts = (js : Items) × InItems ts js

-- the members of an object
abbrev pub members_of : Json → json.Members
members_of json.null = json.no_members
members_of (json.boolean b) = json.no_members
members_of (json.number s) = json.no_members
members_of (json.string s) = json.no_members
members_of (json.array js) = json.no_members
members_of (json.object ms) = ms

abbrev pub members_from : Option (Json × List Token) → json.Members
members_from None = json.no_members
members_from (Some p) = members_of p.0

-- what the last member of the name holds, where null counts as absent, or what was held before
abbrev pub last_in : List ℕ → json.Members → Option Data → Option Data
last_in name json.no_members before = before
last_in name (json.member k j ms) before =
    last_in name ms (if bytes_eq k name then present (Some (data_of j)) else before)

-- what an object's field holds, once the members with which the tokens begin, up to the end of the object, follow what
-- it held before
unfoldable pub field_behind : List ℕ → List Token → Option Data → Option Data
field_behind name ts before =
    last_in name (members_from (value (length (begin_object ∷ ts)) (begin_object ∷ ts))) before

abbrev pub HasMembers : List Token → Type 0
HasMembers ts = (ms : json.Members) × InMembers ts ms

-- no member is left
abbrev pub AreAllPassed : List Token → Type 0
AreAllPassed ts = (name : List ℕ) (before : Option Data) → field_behind name ts before ≡ before

-- the first of the members that are left has this name and value, and these are left after it
abbrev pub IsNextMember : List ℕ → List Token → List Token → List Token → Type 0
IsNextMember k v old new = (name : List ℕ) (before : Option Data) → field_behind name old before
    ≡ field_behind name new (if bytes_eq k name then present (Some (data_at v)) else before)

-- this was read of what the field held before the members that are left
abbrev pub IsRead : {A E : Type 0} → (Option Data → Result A E) → List ℕ → Data → List Token → A → Type 0
IsRead f name d left x = (before : Option Data) × (field_at name d ≡ field_behind name left before) × (f before ≡ Ok x)

abbrev pub one_less : ℕ → Option ℕ
one_less room = if room == 0 then None else Some (room - 1)

abbrev pub one_more : ℕ → Option ℕ
one_more room = if nat_lt room max_depth then Some (room + 1) else None

abbrev pub room_if : Bool → ℕ → Option ℕ
room_if plain room = if plain then Some room else None

-- how many more arrays and objects may open after this token; none if that is too deep, or a number is not plain
unfoldable pub room_after : ℕ → Token → Option ℕ
room_after room begin_object = one_less room
room_after room end_object = one_more room
room_after room begin_array = one_less room
room_after room end_array = one_more room
room_after room (key s) = Some room
room_after room (string s) = Some room
room_after room (number s) = room_if (is_some (whole s)) room
room_after room (boolean b) = Some room
room_after room token.null = Some room
room_after room bad = None

abbrev pub fits_from : Option ℕ → (ℕ → Bool) → Bool
fits_from None rest = false
fits_from (Some room) rest = rest room

-- each number is plain, and nothing nests deeper than there is room
abbrev pub fits : ℕ → List Token → Bool
fits room [] = true
fits room (t ∷ ts) = fits_from (room_after room t) (λ left. fits left ts)
