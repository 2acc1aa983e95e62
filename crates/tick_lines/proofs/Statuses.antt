-- The statuses of a pod's conditions that an entry says.
use Rattle.std.proofs.Common.{◌≡◌, ◌∙◌, ◌&&◌, ◌++◌, ℕ, Bool, true, false, List, [], ◌∷◌, Option, Some, None}
use Rattle.std.proofs.Common.{map, String, Global, string_bytes, string_cmp, option_map, append_assoc, refl, ap, sym, subst}
use Rattle.std.specs.BTreeMap.{insert_entry}
use Rattle.std.proofs.Common.{Ordering, Less, Equal, Greater, nat_cmp}
use Rattle.std.specs.Prelude.{◌↔◌, IsTrue, codes, if◌then◌else◌}
use Rattle.std.specs.Ordering.{match_ordering}
use Rattle.serde_json.specs.Find.{as_bool, as_object}
use Rattle.serde_json.specs.View.{members_of}
use Rattle.std.specs.Cmp.Lexicographic.{slice_cmp}
use Rattle.json.specs.Json as json
use Rattle.serde_json.specs.Data.{Data, null, boolean, number, string, array, object, Members, no_members, member, put}
use Rattle.json_fields.specs.rule.Fields.{field_at}
use Rattle.json_fields.specs.state.Borrowed.{data_of, members_data}
use Rattle.tick_lines.specs.declared.conditions.ConditionsMember.{ConditionsMember}
use Rattle.tick_lines.specs.declared.conditions.ConditionsMember.TheVariants as said
use Rattle.tick_lines.specs.rule.Statuses.{is_status, are_all_statuses, are_statuses}
use Rattle.tick_lines.specs.rule.Conditions.{conditions_of}
use Rattle.tick_lines.specs.rule.Resizes.{names_in, names_from}
use Rattle.tick_lines.specs.rule.Statuses.{statuses_in, statuses_from}
use Rattle.tick_lines.specs.state.Conditions.{status_data, members_statuses, all_statuses, if_statuses}
use Rattle.tick_lines.specs.state.Conditions.{given_data, given_members}
use Rattle.tick_lines.specs.state.Laws.{SaysStatuses, ConditionsSaid}
use Rattle.tick_lines.proofs.Parts.{entry_parts}

-- each member with its status
abbrev statuses : Members → Members
statuses no_members = no_members
statuses (member k d ms) = member k (status_data d) (statuses ms)

statuses-put : (k : List ℕ) (d : Data) (ms : Members) → statuses (put k d ms) ≡ put k (status_data d) (statuses ms)
statuses-put k d no_members = refl
statuses-put k d (member l e ms) = there (slice_cmp nat_cmp k l) (statuses-put k d ms)
  where
    there : (o : Ordering) → statuses (put k d ms) ≡ put k (status_data d) (statuses ms)
        → statuses (match_ordering o (member k d (member l e ms)) (member l d ms) (member l e (put k d ms)))
        ≡ match_ordering o (member k (status_data d) (member l (status_data e) (statuses ms)))
        (member l (status_data d) (statuses ms)) (member l (status_data e) (put k (status_data d) (statuses ms)))
    there Less same = refl
    there Equal same = refl
    there Greater same = ap (λ ms. member l (status_data e) ms) same

statuses_are : (ms : json.Members) (found : Members)
    → members_statuses ms (statuses found) ≡ statuses (members_data ms found)
statuses_are json.no_members found = refl
statuses_are (json.member k j ms) found =
    ap (λ found. members_statuses ms found) (sym (statuses-put k (data_of j) found))
    ∙ statuses_are ms (put k (data_of j) found)

status_same : (d : Data) → is_status (status_data d) ≡ is_status d
status_same null = refl
status_same (boolean b) = refl
status_same (number n) = refl
status_same (string s) = refl
status_same (array ds) = refl
status_same (object ms) = refl

all_same : (ms : Members) → are_all_statuses (statuses ms) ≡ are_all_statuses ms
all_same no_members = refl
all_same (member k d ms) =
    ap (λ b. b && are_all_statuses (statuses ms)) (status_same d) ∙ ap (λ b. is_status d && b) (all_same ms)

bool_same : (d : Data) → as_bool (status_data d) ≡ as_bool d
bool_same null = refl
bool_same (boolean b) = refl
bool_same (number n) = refl
bool_same (string s) = refl
bool_same (array ds) = refl
bool_same (object ms) = refl

in_same : (ms : Members) → statuses_in (statuses ms) ≡ statuses_in ms
in_same no_members = refl
in_same (member k d ms) =
    ap (λ b. (k, b) ∷ statuses_in (statuses ms)) (bool_same d) ∙ ap (λ rest. (k, as_bool d) ∷ rest) (in_same ms)

-- the statuses that were kept are those of the line's members
pub borrowed_found : (ms : json.Members) (kept : Members) → kept ≡ members_statuses ms no_members
    → all_statuses kept ≡ if_statuses (data_of (json.object ms))
borrowed_found ms kept e =
    let found = members_data ms no_members in
    ap all_statuses (e ∙ statuses_are ms no_members)
    ∙ ap (λ b. if b then Some (statuses_in (statuses found)) else None) (all_same found)
    ∙ ap (λ list. if are_all_statuses found then Some list else None) (in_same found)

-- one more member that gives a status
pub added : (k : List ℕ) (status : Option Bool) (ms : Members) (list : List (List ℕ × Option Bool))
    → option_map (λ rest. list ++ rest) (all_statuses (member k (given_data (Some status)) ms))
    ≡ option_map (λ rest. (list ++ (k, status) ∷ []) ++ rest) (all_statuses ms)
added k None ms list = by (are_all_statuses ms)
  where
    by : (b : Bool) → option_map (λ rest. list ++ rest) (if b then Some ((k, None) ∷ statuses_in ms) else None)
        ≡ option_map (λ rest. (list ++ (k, None) ∷ []) ++ rest) (if b then Some (statuses_in ms) else None)
    by true = ap (λ rest. Some rest) (sym (append_assoc list ((k, None) ∷ []) (statuses_in ms)))
    by false = refl
added k (Some truth) ms list = by (are_all_statuses ms)
  where
    by : (b : Bool) → option_map (λ rest. list ++ rest) (if b then Some ((k, Some truth) ∷ statuses_in ms) else None)
        ≡ option_map (λ rest. (list ++ (k, Some truth) ∷ []) ++ rest) (if b then Some (statuses_in ms) else None)
    by true = ap (λ rest. Some rest) (sym (append_assoc list ((k, Some truth) ∷ []) (statuses_in ms)))
    by false = refl

-- noting what a name gives
noted-match : (o : Ordering) (a b c : List (String Global × Option (Option Bool)))
    → given_members (match_ordering o a b c) ≡ match_ordering o (given_members a) (given_members b) (given_members c)
noted-match Less a b c = refl
noted-match Equal a b c = refl
noted-match Greater a b c = refl

pub noted : (es : List (String Global × Option (Option Bool))) (k : String Global) (given : Option (Option Bool))
    → given_members (insert_entry string_cmp es k given)
    ≡ put (string_bytes k) (given_data given) (given_members es)
noted [] k given = refl
noted (e ∷ es) k given = noted-match (string_cmp k e.0) _ _ _ ∙ rw (noted es k given)

-- the keys are the members' names
pub keys_are_names : {T : Type 0} (f : T → Data) (es : List (String Global × T))
    → map (λ e. string_bytes e.0) es ≡ names_in (members_of (map (λ e. (e.0, f e.1)) es))
keys_are_names f [] = refl
keys_are_names f (e ∷ es) = ap (λ names. string_bytes e.0 ∷ names) (keys_are_names f es)

names_same : (ms : Members) → names_in (statuses ms) ≡ names_in ms
names_same no_members = refl
names_same (member k d ms) = ap (λ names. k ∷ names) (names_same ms)

-- the names of the members that were kept are those of the line's
pub borrowed_names : (ms : json.Members) (kept : Members) → kept ≡ members_statuses ms no_members
    → names_in kept ≡ names_from (as_object (data_of (json.object ms)))
borrowed_names ms kept e = ap names_in (e ∙ statuses_are ms no_members) ∙ names_same (members_data ms no_members)

says_statuses : (found : Option Data) → SaysStatuses found (conditions_of found)
says_statuses None = record {
  given = λ ms e all. absurd (let e : None ≡ Some (object ms) = e in cc);
  missing = (λ e. refl, λ e. refl);
  other = λ d e not. absurd (let e : None ≡ Some d = e in cc);
}
says_statuses (Some d) = record {
  given = λ ms e all. let is : d ≡ object ms = cc in
      by d (are_statuses d) (ap are_statuses is ∙ all) ∙ ap (λ d. said.Statuses (statuses_from (as_object d))) is;
  missing = (λ e. absurd (told (are_statuses d) e), λ e. absurd (cc));
  other = λ other e not. let is : d ≡ other = cc in
      ap (λ b. if b then said.Statuses (statuses_from (as_object d)) else said.OfOtherKind) (ap are_statuses is ∙ not);
}
  where
    by : (d : Data) (b : Bool) → b ≡ true
        → (if b then said.Statuses (statuses_from (as_object d)) else said.OfOtherKind)
        ≡ said.Statuses (statuses_from (as_object d))
    by d true e = refl
    by d false e = absurd (cc)

    told : (b : Bool)
        → (if b then said.Statuses (statuses_from (as_object d)) else said.OfOtherKind) ≡ said.Missing → ⊥
    told true e = absurd (cc)
    told false e = absurd (cc)

pub conditions_said : ConditionsSaid
conditions_said d entry e =
    let found = field_at (codes "conditions") d in
    subst (SaysStatuses found) (entry_parts d entry e).conditions (says_statuses found)
