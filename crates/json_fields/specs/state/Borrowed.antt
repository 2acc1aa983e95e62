-- The data of a JSON value whose texts were not copied.
use Rattle.std.specs.Prelude.{ℕ, ◌^◌, ◌&&◌, ◌||◌, ◌==◌, List, slice_index, Bool, true, false, not, nat_lt}
use Rattle.std.specs.Prelude.{if◌then◌else◌, Option, Some, None}
use Rattle.std.specs.Prelude.{is_some}
use Rattle.std.specs.Str.{bytes_eq}
use Rattle.std.specs.Float.{nan}
use Rattle.fast_float.specs.Text.{minus, Parts, scan, digits_of}
use Rattle.json.specs.Json as json
use Rattle.json.specs.Json.{Json}
use Rattle.serde_json.specs.Data.{Num, unsigned, float, Data, null, boolean, number, string, array, object}
use Rattle.serde_json.specs.Data.{Items, no_items, item, Members, no_members, put}
use Rattle.serde_json.specs.Read.{is_integer}
use Rattle.json_fields.specs.rule.Strangers.{is_stranger}

abbrev pub whole_from : Parts → Option ℕ
whole_from p = if is_integer p && nat_lt (digits_of p) (2 ^ 64) then Some (digits_of p) else None

-- what a number is that digits alone write, below 2^64
abbrev pub whole : List ℕ → Option ℕ
whole s = if slice_index s 0 == minus then None else whole_from (scan s)

-- any other number has none
abbrev pub number_data : Option ℕ → Num
number_data None = float nan
number_data (Some n) = unsigned n

-- The members go in one after another, so the last value of a key stays.
abbrev mutual
  pub data_of : Json → Data
  data_of json.null = null
  data_of (json.boolean b) = boolean b
  data_of (json.number s) = number (number_data (whole s))
  data_of (json.string s) = string s
  data_of (json.array js) = array (items_data js)
  data_of (json.object ms) = object (members_data ms no_members)

  pub items_data : json.Items → Items
  items_data json.no_items = no_items
  items_data (json.item j js) = item (data_of j) (items_data js)

  pub members_data : json.Members → Members → Members
  members_data json.no_members found = found
  members_data (json.member k j ms) found = members_data ms (put k (data_of j) found)

-- each number is one that digits alone write, below 2^64
abbrev mutual
  pub is_plain : Json → Bool
  is_plain json.null = true
  is_plain (json.boolean b) = true
  is_plain (json.number s) = is_some (whole s)
  is_plain (json.string s) = true
  is_plain (json.array js) = items_are_plain js
  is_plain (json.object ms) = members_are_plain ms

  pub items_are_plain : json.Items → Bool
  items_are_plain json.no_items = true
  items_are_plain (json.item j js) = is_plain j && items_are_plain js

  pub members_are_plain : json.Members → Bool
  members_are_plain json.no_members = true
  members_are_plain (json.member k j ms) = is_plain j && members_are_plain ms

abbrev pub has_name : List ℕ → json.Members → Bool
has_name name json.no_members = false
has_name name (json.member k j ms) = bytes_eq k name || has_name name ms

-- the last member of some name is other than null, and the name none of these
abbrev pub has_last_stranger : (List ℕ → Bool) → json.Members → Bool
has_last_stranger includes json.no_members = false
has_last_stranger includes (json.member k j ms) =
    (is_stranger includes k (data_of j) && not (has_name k ms)) || has_last_stranger includes ms
