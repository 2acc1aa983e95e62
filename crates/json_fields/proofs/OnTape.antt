-- A value on a tape by its tokens.
use Rattle.std.proofs.Common.{◌≡◌, ◌∙◌, ℕ, ◌≤◌, List, [], ◌∷◌, ◌++◌, length, Bool}
use Rattle.std.proofs.Common.{true, Option, Some, None, option_map, refl, sym, ap, subst, arith}
use Rattle.std.proofs.lemmas.List.{append_assoc}
use Rattle.std.proofs.Common.{length-append, ap₂, is_some, rules, Vec, Result, Ok, Err}
use Rattle.std.specs.Prelude.{MatchOption, IfSome, IfNone, IfOk}
use Rattle.json.specs.Token.{Token, begin_array}
use Rattle.json.specs.Json as json
use Rattle.json.specs.Json.{Json, after_end_array}
use Rattle.json.specs.Find as found
use Rattle.json.specs.Find.{BeginsWith, HasValue, InItems, InMembers, Finds, NextItem, NextMember}
use Rattle.json.specs.Value.{value_view}
use Rattle.json.specs.declared.value.Value as value
use Rattle.json.specs.declared.value.Value.{Value, String, Number, Object, the_lemmas}
use Rattle.std.specs.Borrow.{Bor}
use Rattle.json.specs.Tree.{json_tokens, items_tokens, members_tokens, depth, items_depth, members_depth}
use Rattle.json.proofs.Found.{items_close, items_go_on}
use Rattle.json.proofs.Grammar.{closed_array}
use Rattle.json.proofs.Printed.Trees.{value-json_tokens}
use Rattle.json.proofs.Trees.{members_before, members_before-no_members, view-Object}
use Rattle.json.proofs.Unique.Spelling.{value-json_tokens_back}
use Rattle.serde_json.specs.Data.{Data}
use Rattle.serde_json.specs.Find.{get, as_null, as_str, as_array, as_object}
use Rattle.json_fields.specs.state.Borrowed.{data_of, items_data}
use Rattle.json_fields.specs.rule.Fields.{items_list}
use Rattle.json_fields.specs.state.Tape.{data_at, data_from, items_in, listed, HasItems}
use Rattle.json_fields.proofs.Plain.{get_data}

-- nothing nests deeper than it has tokens
mutual
  pub depth-tokens : (j : Json) → depth j ≤ length (json_tokens j)
  depth-tokens json.null = omega arith
  depth-tokens (json.boolean b) = omega arith
  depth-tokens (json.number s) = omega arith
  depth-tokens (json.string s) = omega arith
  depth-tokens (json.array js) = omega (arith, depth-items js)
  depth-tokens (json.object ms) = omega (arith, depth-members ms)

  depth-items : (js : json.Items) → items_depth js ≤ length (items_tokens js)
  depth-items json.no_items = omega arith
  depth-items (json.item j js) =
      omega (arith, depth-tokens j, depth-items js, length-append (json_tokens j) (items_tokens js))

  depth-members : (ms : json.Members) → members_depth ms ≤ length (members_tokens ms)
  depth-members json.no_members = omega arith
  depth-members (json.member k j ms) =
      omega (arith, depth-tokens j, depth-members ms, length-append (json_tokens j) (members_tokens ms))

pub data_of_tokens : (j : Json) (rest : List Token) → data_at (json_tokens j ++ rest) ≡ data_of j
unfolding data_at
data_of_tokens j rest =
    ap data_from (value-json_tokens j (length (json_tokens j ++ rest)) rest
    (omega (arith, depth-tokens j, length-append (json_tokens j) rest)))

-- the data are those of the value with which the tokens begin
pub data_here : (ts : List Token) (j : Json) → BeginsWith ts j → data_at ts ≡ data_of j
data_here ts j begins =
    ap data_at (value-json_tokens_back begins.0 ts begins.1 j begins.2) ∙ data_of_tokens j begins.1

-- ---- what is found in it

found_data : (r : Option (List Token)) (o : Option Json) → Finds r o → option_map data_at r ≡ option_map data_of o
found_data None o is = ap (option_map data_of) (sym is)
found_data (Some us) o is = ap Some (data_here us is.0 is.2) ∙ ap (option_map data_of) (sym is.1)

pub found_member : (name : List ℕ) (ts : List Token) (r : Option (List Token)) → HasValue ts
    → ((j : Json) → BeginsWith ts j → Finds r (found.get name j)) → option_map data_at r ≡ get name (data_at ts)
found_member name ts r has finds =
    found_data r _ (finds has.0 has.1) ∙ sym (get_data name has.0) ∙ ap (get name) (sym (data_here ts has.0 has.1))

-- its text, and whether it is null
text_and_null : (j : Json) → (found.as_str j ≡ as_str (data_of j)) × (found.is_null j ≡ is_some (as_null (data_of j)))
text_and_null json.null = (refl, refl)
text_and_null (json.boolean b) = (refl, refl)
text_and_null (json.number s) = (refl, refl)
text_and_null (json.string s) = (refl, refl)
text_and_null (json.array js) = (refl, refl)
text_and_null (json.object ms) = (refl, refl)

pub found_text : (ts : List Token) (r : Option (List ℕ)) → HasValue ts
    → ((j : Json) → BeginsWith ts j → r ≡ found.as_str j) → r ≡ as_str (data_at ts)
found_text ts r has is = is has.0 has.1 ∙ (text_and_null has.0).0 ∙ ap as_str (sym (data_here ts has.0 has.1))

pub found_null : (ts : List Token) (r : Bool) → HasValue ts
    → ((j : Json) → BeginsWith ts j → r ≡ found.is_null j) → r ≡ is_some (as_null (data_at ts))
found_null ts r has is =
    is has.0 has.1 ∙ (text_and_null has.0).1 ∙ ap (λ d. is_some (as_null d)) (sym (data_here ts has.0 has.1))

-- ---- the items of an array

closed : (ts r : List Token) (js : json.Items) → after_end_array ts ≡ Some r → InItems ts js → js ≡ json.no_items
closed ts r js e inside = items_close r js (subst (λ us. InItems us js) (closed_array ts r e) inside)

items_spelled : (js : json.Items) (ts : List Token) → InItems ts js → (r : List Token) × (ts ≡ items_tokens js ++ r)
items_spelled json.no_items ts inside = go (after_end_array ts) refl
  where
    go : (o : Option (List Token)) → after_end_array ts ≡ o → (r : List Token) × (ts ≡ items_tokens json.no_items ++ r)
    go (Some r) e = (r, closed_array ts r e)
    go None e = let bad = (items_go_on ts json.no_items e inside).5 in absurd (cc)
items_spelled (json.item j js) ts inside = go (after_end_array ts) refl (items_spelled js)
  where
    go : (o : Option (List Token)) → after_end_array ts ≡ o
        → ((us : List Token) → InItems us js → (r : List Token) × (us ≡ items_tokens js ++ r))
        → (r : List Token) × (ts ≡ items_tokens (json.item j js) ++ r)
    go (Some r) e spelled = let bad = closed ts r (json.item j js) e inside in absurd (cc)
    go None e spelled =
        let f = items_go_on ts (json.item j js) e inside in
        let is : json.item j js ≡ json.item f.1 f.3 = f.5 in
        let rest_is : js ≡ f.3 = cc in
        let first_is : f.1 ≡ j = cc in
        let later = spelled f.2 (subst (InItems f.2) (sym rest_is) f.6) in (
          later.0,
          value-json_tokens_back f.0 ts f.2 f.1 f.4 ∙ ap (λ i. json_tokens i ++ f.2) first_is
              ∙ ap (λ us. json_tokens j ++ us) later.1 ∙ sym (append_assoc (json_tokens j) (items_tokens js) later.0),
        )

-- the data are those of the items with which the tokens begin
pub datas_here : (ts : List Token) (js : json.Items) → InItems ts js → items_in ts ≡ items_list (items_data js)
unfolding items_in
datas_here ts js inside =
    let s = items_spelled js ts inside in
    ap (λ us. listed (as_array (data_at (begin_array ∷ us)))) s.1
    ∙ ap (λ d. listed (as_array d)) (data_of_tokens (json.array js) s.0)

pub next_item : (old new : List Token) (r : Option (List Token)) → HasItems old → NextItem old r new
    → MatchOption r (items_in old ≡ []) (λ v. items_in old ≡ data_at v ∷ items_in new)
next_item old new None has is =
    datas_here old has.0 has.1 ∙ ap (λ js. items_list (items_data js)) (is has.0 has.1)
next_item old new (Some us) has is =
    let n = is has.0 has.1 in
    datas_here old has.0 has.1 ∙ ap (λ js. items_list (items_data js)) n.2
    ∙ ap₂ (λ (d : Data) (ds : List Data). d ∷ ds) (sym (data_here us n.0 n.3)) (sym (datas_here new n.1 n.4))

array_data : (j : Json) → found.as_array j ≡ None → as_array (data_of j) ≡ None
array_data json.null e = refl
array_data (json.boolean b) e = refl
array_data (json.number s) e = refl
array_data (json.string s) e = refl
array_data (json.array js) e = absurd (cc)
array_data (json.object ms) e = refl

pub found_items : (ts : List Token) (r : Option (List Token)) → HasValue ts
    → ((j : Json) → BeginsWith ts j → MatchOption r (found.as_array j ≡ None)
    (λ rest. (js : json.Items) × (j ≡ json.array js) × InItems rest js))
    → option_map items_in r ≡ option_map items_list (as_array (data_at ts))
found_items ts r has is = go r (is has.0 has.1)
  where
    go : (r : Option (List Token)) → MatchOption r (found.as_array has.0 ≡ None)
        (λ rest. (js : json.Items) × (has.0 ≡ json.array js) × InItems rest js)
        → option_map items_in r ≡ option_map items_list (as_array (data_at ts))
    go None none = sym (ap (λ d. option_map items_list (as_array d)) (data_here ts has.0 has.1)
        ∙ ap (option_map items_list) (array_data has.0 none))
    go (Some us) some = ap Some (datas_here us some.0 some.2)
        ∙ ap (λ j. option_map items_list (as_array (data_of j))) (sym some.1)
        ∙ ap (λ d. option_map items_list (as_array d)) (sym (data_here ts has.0 has.1))

-- what is left of the items, and the one that was next
pub is_next : (old new us : List Token) → HasItems old → NextItem old (Some us) new → HasValue us × HasItems new
is_next old new us has is = let n = is has.0 has.1 in ((n.0, n.3), (n.1, n.4))

pub items_kept : (old new : List Token) (r : Option (List Token)) → HasItems old → NextItem old r new
    → IfNone r (new ≡ old) → HasItems new
items_kept old new None has is stays = subst HasItems (sym stays) has
items_kept old new (Some us) has is stays = (is_next old new us has is).1

pub value_found : (ts us : List Token) (f : Json → Option Json) → HasValue ts
    → ((j : Json) → BeginsWith ts j → Finds (Some us) (f j)) → HasValue us
value_found ts us f has finds = let n = finds has.0 has.1 in (n.0, n.2)

pub items_inside : (ts us : List Token) → HasValue ts
    → ((j : Json) → BeginsWith ts j → MatchOption (Some us) (found.as_array j ≡ None)
    (λ rest. (js : json.Items) × (j ≡ json.array js) × InItems rest js)) → HasItems us
items_inside ts us has is = let n = is has.0 has.1 in (n.0, n.2)

-- ---- values that hold no others

pub view-String : (A : Type 0) (s : Bor (List ℕ)) → value_view {A = A} (String s) ≡ json.string s.now
view-String A s = search (rules, the_lemmas)

pub view-Number : (A : Type 0) (s : Bor (List ℕ)) → value_view {A = A} (Number s) ≡ json.number s.now
view-Number A s = search (rules, the_lemmas)

pub view-Bool : (A : Type 0) (b : Bool) → value_view {A = A} (value.Bool b) ≡ json.boolean b
view-Bool A b = search (rules, the_lemmas)

pub view-Null : (A : Type 0) → value_view {A = A} value.Null ≡ json.null
view-Null A = search (rules, the_lemmas)

pub string_is : (s : List ℕ) (j : Json) → Some s ≡ found.as_str j → json.string s ≡ j
string_is s json.null e = absurd (cc)
string_is s (json.boolean b) e = absurd (cc)
string_is s (json.number t) e = absurd (cc)
string_is s (json.string t) e = let same : s ≡ t = cc in ap json.string same
string_is s (json.array js) e = absurd (cc)
string_is s (json.object ms) e = absurd (cc)

pub number_is : (s : List ℕ) (j : Json) → Some s ≡ found.as_number j → json.number s ≡ j
number_is s json.null e = absurd (cc)
number_is s (json.boolean b) e = absurd (cc)
number_is s (json.number t) e = let same : s ≡ t = cc in ap json.number same
number_is s (json.string t) e = absurd (cc)
number_is s (json.array js) e = absurd (cc)
number_is s (json.object ms) e = absurd (cc)

pub boolean_is : (b : Bool) (j : Json) → Some b ≡ found.as_bool j → json.boolean b ≡ j
boolean_is b json.null e = absurd (cc)
boolean_is b (json.boolean c) e = let same : b ≡ c = cc in ap json.boolean same
boolean_is b (json.number t) e = absurd (cc)
boolean_is b (json.string t) e = absurd (cc)
boolean_is b (json.array js) e = absurd (cc)
boolean_is b (json.object ms) e = absurd (cc)

pub null_is : (j : Json) → true ≡ found.is_null j → json.null ≡ j
null_is json.null e = refl
null_is (json.boolean b) e = absurd (cc)
null_is (json.number t) e = absurd (cc)
null_is (json.string t) e = absurd (cc)
null_is (json.array js) e = absurd (cc)
null_is (json.object ms) e = absurd (cc)

pub scalar_data : {A : Type 0} (ts : List Token) (v : Value A) → HasValue ts
    → ((j : Json) → BeginsWith ts j → value_view v ≡ j) → data_of (value_view v) ≡ data_at ts
scalar_data ts v has is = ap data_of (is has.0 has.1) ∙ sym (data_here ts has.0 has.1)

pub scalar_found : {A : Type 0} (ts : List Token) (r : Option (Value A)) → HasValue ts
    → IfSome r (λ v. (j : Json) → BeginsWith ts j → value_view v ≡ j)
    → IfSome r (λ v. data_of (value_view v) ≡ data_at ts)
scalar_found ts None has is = tt
scalar_found ts (Some v) has is = scalar_data ts v has is

-- ---- an object whose members hold no others

members_push : {A : Type 0} (ms : List (Bor (List ℕ) × Value A)) (m : Bor (List ℕ) × Value A) (rest : json.Members)
    → members_before ms (json.member m.0.now (value_view m.1) rest) ≡ members_before (ms ++ m ∷ []) rest
members_push [] m rest = refl
members_push (n ∷ ms) m rest = ap (json.member n.0.now (value_view n.1)) (members_push ms m rest)

-- the members that were read, before those that are left, are these
abbrev pub AreRead : {A : Type 0} → List Token → List (Bor (List ℕ) × Value A) → json.Members → Type 0
AreRead left read ms = (rest : json.Members) × InMembers left rest × (members_before read rest ≡ ms)

pub one_member_read : {A : Type 0} (left new us : List Token) (read : List (Bor (List ℕ) × Value A))
    (name : Bor (List ℕ)) (v : Value A) (ms : json.Members) → AreRead left read ms
    → NextMember left (Some (name.now, us)) new → ((j : Json) → BeginsWith us j → value_view v ≡ j)
    → AreRead new (read ++ (name, v) ∷ []) ms
one_member_read left new us read name v ms before next is =
    let n = next before.0 before.1 in (
      n.1,
      n.4,
      sym (members_push read (name, v) n.1)
          ∙ ap (λ j. members_before read (json.member name.now j n.1)) (is n.0 n.3)
          ∙ ap (members_before read) (sym n.2) ∙ before.2,
    )

pub all_members_read : {A : Type 0} (left new : List Token) (read : Vec (Bor (List ℕ) × Value A) A) (ms : json.Members)
    → AreRead left read.items ms → NextMember left None new → value_view (Object read) ≡ json.object ms
all_members_read left new read ms before next =
    view-Object read
    ∙ ap json.object (sym (members_before-no_members read.items)
    ∙ ap (members_before read.items) (sym (next before.0 before.1)) ∙ before.2)

pub object_data : {A : Type 0} (ts left : List Token) (v : Value A) → HasValue ts
    → ((j : Json) → BeginsWith ts j → MatchOption (Some left) (found.as_object j ≡ None)
    (λ rest. (ms : json.Members) × (j ≡ json.object ms) × InMembers rest ms))
    → ((ms : json.Members) → InMembers left ms → value_view v ≡ json.object ms) → data_of (value_view v) ≡ data_at ts
object_data ts left v has found is =
    let m = found has.0 has.1 in
    ap data_of (is m.0 m.2 ∙ sym m.1) ∙ sym (data_here ts has.0 has.1)

pub object_found : {A E : Type 0} (ts left : List Token) (r : Result (Option (Value A)) E) → HasValue ts
    → ((j : Json) → BeginsWith ts j → MatchOption (Some left) (found.as_object j ≡ None)
    (λ rest. (ms : json.Members) × (j ≡ json.object ms) × InMembers rest ms))
    → IfOk r (λ o. IfSome o (λ v. (ms : json.Members) → InMembers left ms → value_view v ≡ json.object ms))
    → IfOk r (λ o. IfSome o (λ v. data_of (value_view v) ≡ data_at ts))
object_found ts left (Err e) has found is = tt
object_found ts left (Ok None) has found is = tt
object_found ts left (Ok (Some v)) has found is = object_data ts left v has found is

object_here : (j : Json) (r : Option (List Token)) → MatchOption r (found.as_object j ≡ None)
    (λ rest. (ms : json.Members) × (j ≡ json.object ms) × InMembers rest ms)
    → is_some r ≡ is_some (as_object (data_of j))
object_here (json.object ms) None e = absurd (cc)
object_here (json.object ms) (Some us) is = refl
object_here json.null None e = refl
object_here (json.boolean b) None e = refl
object_here (json.number s) None e = refl
object_here (json.string s) None e = refl
object_here (json.array js) None e = refl
object_here json.null (Some us) is = let no = is.1 in absurd (cc)
object_here (json.boolean b) (Some us) is = let no = is.1 in absurd (cc)
object_here (json.number s) (Some us) is = let no = is.1 in absurd (cc)
object_here (json.string s) (Some us) is = let no = is.1 in absurd (cc)
object_here (json.array js) (Some us) is = let no = is.1 in absurd (cc)

pub found_object : (ts : List Token) (r : Option (List Token)) → HasValue ts
    → ((j : Json) → BeginsWith ts j → MatchOption r (found.as_object j ≡ None)
    (λ rest. (ms : json.Members) × (j ≡ json.object ms) × InMembers rest ms))
    → is_some r ≡ is_some (as_object (data_at ts))
found_object ts r has is =
    object_here has.0 r (is has.0 has.1) ∙ ap (λ d. is_some (as_object d)) (sym (data_here ts has.0 has.1))
