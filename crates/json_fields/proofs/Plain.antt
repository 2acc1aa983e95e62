-- The data of a value whose texts were not copied are those that serde_json reads.
use Rattle.std.proofs.Common.{◌≡◌, ◌==◌, ℕ, ◌^◌, ◌&&◌, List, [], ◌∷◌, map, Bool, true, false}
use Rattle.std.proofs.Common.{Option, Some, None, is_some, option_map, refl, sym, ap, ◌∙◌}
use Rattle.std.proofs.Common.{true≢false}
use Rattle.std.specs.Prelude.{slice_index, nat_lt, if◌then◌else◌, cond}
use Rattle.std.specs.Str.{bytes_eq}
use Rattle.std.proofs.lemmas.Slice.Eq.{bytes_eq-Decides}
use Rattle.fast_float.specs.Text.{minus, scan, digits_of}
use Rattle.json.specs.Json as json
use Rattle.json.specs.Json.{Json}
use Rattle.json.specs.Find as found
use Rattle.json.specs.Value.{value_view, items_view}
use Rattle.json.specs.declared.value.Value.{Value}
use Rattle.serde_json.specs.Data.{Num, unsigned, Data, number, array, object}
use Rattle.serde_json.specs.Data.{Members, no_members, put}
use Rattle.serde_json.specs.Find.{get, get_member}
use Rattle.serde_json.specs.Read.{is_integer, number_of, number_from, of_json, of_items, of_members}
use Rattle.serde_json.proofs.Views.{get_member-put, get_member-put_other}
use Rattle.json_fields.specs.rule.Fields.{items_list}
use Rattle.json_fields.specs.state.Borrowed.{whole, whole_from, number_data, data_of, items_data, members_data}
use Rattle.json_fields.specs.state.Borrowed.{is_plain, items_are_plain, members_are_plain}

left : (a b : Bool) → a && b ≡ true → a ≡ true
left true b e = refl
left false b e = e

right : (a b : Bool) → a && b ≡ true → b ≡ true
right true b e = e
right false b e = absurd (true≢false (sym e))

counted : (test : Bool) (n : ℕ) (other : Option Num) → is_some (if test then Some n else None) ≡ true
    → (if test then Some (unsigned n) else other) ≡ Some (number_data (if test then Some n else None))
counted true n other e = refl
counted false n other e = absurd (true≢false (sym e))

signed : (negative : Bool) (s : List ℕ) (other : Option Num)
    → is_some (if negative then None else whole_from (scan s)) ≡ true
    → (if negative then other else number_from false (scan s))
    ≡ Some (number_data (if negative then None else whole_from (scan s)))
signed true s other e = absurd (true≢false (sym e))
signed false s other e = counted (is_integer (scan s) && nat_lt (digits_of (scan s)) (2 ^ 64)) (digits_of (scan s)) _ e

number_of-whole : (s : List ℕ) → is_some (whole s) ≡ true → number_of s ≡ Some (number_data (whole s))
unfolding number_of
number_of-whole s e = signed (slice_index s 0 == minus) s _ e

mutual
  pub of_json_plain : (j : Json) → is_plain j ≡ true → of_json j ≡ Some (data_of j)
  of_json_plain json.null e = refl
  of_json_plain (json.boolean b) e = refl
  of_json_plain (json.number s) e = ap (option_map number) (number_of-whole s e)
  of_json_plain (json.string s) e = refl
  of_json_plain (json.array js) e = ap (option_map array) (of_items_plain js e)
  of_json_plain (json.object ms) e = ap (option_map object) (of_members_plain ms no_members e)

  of_items_plain : (js : json.Items) → items_are_plain js ≡ true → of_items js ≡ Some (items_data js)
  of_items_plain json.no_items e = refl
  of_items_plain (json.item j js) e =
      rw (of_json_plain j (left _ _ e), of_items_plain js (right (is_plain j) _ e)) refl

  of_members_plain : (ms : json.Members) (found : Members) → members_are_plain ms ≡ true
      → of_members ms found ≡ Some (members_data ms found)
  of_members_plain json.no_members found e = refl
  of_members_plain (json.member k j ms) found e =
      rw (of_json_plain j (left _ _ e)) (of_members_plain ms (put k (data_of j) found) (right (is_plain j) _ e))

-- the items of an array, one after the other
pub items_data_view : {A : Type 0} (vs : List (Value A))
    → map (λ v. data_of (value_view v)) vs ≡ items_list (items_data (items_view vs))
items_data_view [] = refl
items_data_view (v ∷ vs) = ap (λ (ds : List Data). data_of (value_view v) ∷ ds) (items_data_view vs)

-- the value that was found last, or what was found before
abbrev later : Option Data → Option Data → Option Data
later None earlier = earlier
later (Some d) earlier = Some d

later-map : (last first : Option Json) (d : Option Data)
    → later (option_map data_of (found.later_or last first)) d
    ≡ later (option_map data_of last) (later (option_map data_of first) d)
later-map None first d = refl
later-map (Some j) first d = refl

-- what was put is found under its name alone
found_where : (same : Bool) (name k : List ℕ) (j : Json) (ms : Members) → bytes_eq k name ≡ same
    → get_member name (put k (data_of j) ms) ≡ later (option_map data_of (cond same (Some j) None)) (get_member name ms)
found_where true name k j ms e =
    let is = (bytes_eq-Decides k name).0 e in
    rw (← is) (get_member-put k (data_of j) ms)
found_where false name k j ms e =
    get_member-put_other name k (data_of j) ms (λ is. true≢false (sym ((bytes_eq-Decides k name).1 (sym is)) ∙ e))

get_member-data : (name : List ℕ) (ms : json.Members) (before : Members)
    → get_member name (members_data ms before)
    ≡ later (option_map data_of (found.get_member name ms)) (get_member name before)
get_member-data name json.no_members before = refl
get_member-data name (json.member k j ms) before =
    get_member-data name ms (put k (data_of j) before)
    ∙ ap (later (option_map data_of (found.get_member name ms))) (found_where _ name k j before refl)
    ∙ sym (later-map (found.get_member name ms) _ (get_member name before))

later-none : (d : Option Data) → later d None ≡ d
later-none None = refl
later-none (Some d) = refl

-- a member is found in the data as in the value
pub get_data : (name : List ℕ) (j : Json) → get name (data_of j) ≡ option_map data_of (found.get name j)
get_data name json.null = refl
get_data name (json.boolean b) = refl
get_data name (json.number s) = refl
get_data name (json.string s) = refl
get_data name (json.array js) = refl
get_data name (json.object ms) = get_member-data name ms no_members ∙ later-none _
