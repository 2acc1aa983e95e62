-- The members of an object on a tape, one after the other.
use Rattle.std.proofs.Common.{◌≡◌, ◌∙◌, ℕ, List, ◌∷◌, ◌++◌, length, Bool, true, false, Option, Some, None, Result, Ok}
use Rattle.std.proofs.Common.{arith, length-append, option_map, refl, sym, ap, subst, true≢false}
use Rattle.std.proofs.lemmas.List.{append_assoc}
use Rattle.std.proofs.lemmas.Slice.Eq.{bytes_eq-Decides}
use Rattle.std.specs.Prelude.{MatchOption, IfNone, if◌then◌else◌}
use Rattle.std.specs.Str.{bytes_eq}
use Rattle.json.specs.Token.{Token, begin_object}
use Rattle.json.specs.Token as token
use Rattle.json.specs.Json as json
use Rattle.json.specs.Json.{Json, read_key, value}
use Rattle.json.specs.Find as found
use Rattle.json.specs.Find.{BeginsWith, HasValue, InMembers, NextMember}
use Rattle.json.specs.Tree.{json_tokens, members_tokens}
use Rattle.json.proofs.Found.{members_go_on, members_close, not_found}
use Rattle.json.proofs.Grammar.{members_no_key, read_key_is}
use Rattle.json.proofs.Printed.Trees.{value-json_tokens}
use Rattle.json.proofs.Unique.Spelling.{value-json_tokens_back}
use Rattle.serde_json.specs.Data.{Data, Members, no_members, put}
use Rattle.serde_json.specs.Find.{get_member}
use Rattle.serde_json.proofs.Views.{get_member-put, get_member-put_other}
use Rattle.json_fields.specs.state.Borrowed.{data_of, members_data}
use Rattle.json_fields.specs.rule.Fields.{present, field_at}
use Rattle.json_fields.specs.state.Tape.{data_at, last_in, members_from, field_behind, HasMembers}
use Rattle.json_fields.specs.state.Tape.{AreAllPassed, IsNextMember, IsRead}
use Rattle.json_fields.proofs.OnTape.{data_here, depth-tokens}

put_where : (same : Bool) (name k : List ℕ) (d : Data) (ms : Members) → bytes_eq k name ≡ same
    → present (get_member name (put k d ms)) ≡ (if same then present (Some d) else present (get_member name ms))
put_where true name k d ms e =
    let is = (bytes_eq-Decides k name).0 e in
    ap present (subst (λ (n : List ℕ). get_member n (put k d ms) ≡ Some d) is (get_member-put k d ms))
put_where false name k d ms e =
    ap present (get_member-put_other name k d ms
    (λ is. true≢false (sym ((bytes_eq-Decides k name).1 (sym is)) ∙ e)))

last_member : (name : List ℕ) (ms : json.Members) (before : Members)
    → present (get_member name (members_data ms before)) ≡ last_in name ms (present (get_member name before))
last_member name json.no_members before = refl
last_member name (json.member k j ms) before =
    last_member name ms (put k (data_of j) before)
    ∙ ap (last_in name ms) (put_where (bytes_eq k name) name k (data_of j) before refl)

-- ---- the members with which tokens begin

no_key_left : {P : Type 0} (ts : List Token) (ms : json.Members) → InMembers ts ms → read_key ts ≡ None → P
no_key_left ts ms inside e =
    not_found (ms, inside.2) (sym (members_no_key (value inside.0) inside.1 ts e) ∙ inside.3)

members_spelled : (ms : json.Members) (ts : List Token) → InMembers ts ms
    → (r : List Token) × (ts ≡ members_tokens ms ++ r)
members_spelled json.no_members ts inside = go (read_key ts) refl
  where
    go : (o : Option (Option (List ℕ) × List Token)) → read_key ts ≡ o
        → (r : List Token) × (ts ≡ members_tokens json.no_members ++ r)
    go None e = no_key_left ts json.no_members inside e
    go (Some (None, s)) e = (s, read_key_is ts None s e)
    go (Some (Some k, s)) e =
        let no = (members_go_on k s json.no_members
        (subst (λ us. InMembers us json.no_members) (read_key_is ts (Some k) s e) inside)).5 in
        absurd (cc)
members_spelled (json.member k j ms) ts inside = go (read_key ts) refl (members_spelled ms)
  where
    go : (o : Option (Option (List ℕ) × List Token)) → read_key ts ≡ o
        → ((us : List Token) → InMembers us ms → (r : List Token) × (us ≡ members_tokens ms ++ r))
        → (r : List Token) × (ts ≡ members_tokens (json.member k j ms) ++ r)
    go None e spelled = no_key_left ts (json.member k j ms) inside e
    go (Some (None, s)) e spelled =
        let no = members_close token.end_object s (json.member k j ms) (λ never. never)
        (subst (λ us. InMembers us (json.member k j ms)) (read_key_is ts None s e) inside) in
        absurd (cc)
    go (Some (Some l, s)) e spelled =
        let f = members_go_on l s (json.member k j ms)
        (subst (λ us. InMembers us (json.member k j ms)) (read_key_is ts (Some l) s e) inside) in
        let is : json.member k j ms ≡ json.member l f.1 f.3 = f.5 in
        let name_is : l ≡ k = cc in
        let value_is : f.1 ≡ j = cc in
        let rest_is : f.3 ≡ ms = cc in
        let later = spelled f.2 (subst (InMembers f.2) rest_is f.6) in (
          later.0,
          read_key_is ts (Some l) s e
              ∙ ap (λ us. token.key l ∷ us) (value-json_tokens_back f.0 s f.2 f.1 f.4)
              ∙ ap (λ n. token.key n ∷ (json_tokens f.1 ++ f.2)) name_is
              ∙ ap (λ i. token.key k ∷ (json_tokens i ++ f.2)) value_is
              ∙ ap (λ us. token.key k ∷ (json_tokens j ++ us)) later.1
              ∙ ap (λ us. token.key k ∷ us) (sym (append_assoc (json_tokens j) (members_tokens ms) later.0)),
        )

object_read : (ms : json.Members) (r : List Token)
    → members_from (value (length (json_tokens (json.object ms) ++ r)) (json_tokens (json.object ms) ++ r)) ≡ ms
object_read ms r =
    ap members_from (value-json_tokens (json.object ms) (length (json_tokens (json.object ms) ++ r)) r
    (omega (arith, depth-tokens (json.object ms), length-append (json_tokens (json.object ms)) r)))

members_read : (ts : List Token) (ms : json.Members) → InMembers ts ms
    → members_from (value (length (begin_object ∷ ts)) (begin_object ∷ ts)) ≡ ms
members_read ts ms inside =
    let s = members_spelled ms ts inside in
    ap (λ us. members_from (value (length (begin_object ∷ us)) (begin_object ∷ us))) s.1 ∙ object_read ms s.0

behind : (name : List ℕ) (ts : List Token) (ms : json.Members) (before : Option Data) → InMembers ts ms
    → field_behind name ts before ≡ last_in name ms before
unfolding field_behind
behind name ts ms before inside = ap (λ ns. last_in name ns before) (members_read ts ms inside)

pub fields_left : (ts left : List Token) → HasValue ts
    → ((j : Json) → BeginsWith ts j → MatchOption (Some left) (found.as_object j ≡ None)
    (λ rest. (ms : json.Members) × (j ≡ json.object ms) × InMembers rest ms))
    → (name : List ℕ) → field_at name (data_at ts) ≡ field_behind name left None
fields_left ts left has is name =
    let m = is has.0 has.1 in
    ap (field_at name) (data_here ts has.0 has.1 ∙ ap data_of m.1) ∙ last_member name m.0 no_members
    ∙ sym (behind name left m.0 None m.2)

pub members_inside : (ts left : List Token) → HasValue ts
    → ((j : Json) → BeginsWith ts j → MatchOption (Some left) (found.as_object j ≡ None)
    (λ rest. (ms : json.Members) × (j ≡ json.object ms) × InMembers rest ms)) → HasMembers left
members_inside ts left has is = let m = is has.0 has.1 in (m.0, m.2)

pub next_is : (old new us : List Token) (k : List ℕ) → HasMembers old → NextMember old (Some (k, us)) new
    → HasValue us × HasMembers new × IsNextMember k us old new
next_is old new us k has next =
    let n = next has.0 has.1 in (
      (n.0, n.3),
      (n.1, n.4),
      λ name before. behind name old has.0 before has.1 ∙ ap (λ ms. last_in name ms before) n.2
          ∙ ap (λ d. last_in name n.1 (if bytes_eq k name then present (Some d) else before))
          (sym (data_here us n.0 n.3))
          ∙ sym (behind name new n.1 _ n.4),
    )

pub none_left : (old new : List Token) → HasMembers old → NextMember old None new → AreAllPassed old
none_left old new has next name before =
    behind name old has.0 before has.1 ∙ ap (λ ms. last_in name ms before) (next has.0 has.1)

pub members_kept : {M : Type 0} (old new : List Token) (f : M → List ℕ × List Token) (r : Option M) → HasMembers old
    → NextMember old (option_map f r) new → IfNone r (new ≡ old) → HasMembers new
members_kept old new f None has next stays = subst HasMembers (sym stays) has
members_kept old new f (Some m) has next stays = (next_is old new (f m).1 (f m).0 has next).1

-- ---- what was read of a field

pub read_first : {A E : Type 0} (f : Option Data → Result A E) (name : List ℕ) (d : Data) (left : List Token) (x : A)
    → field_at name d ≡ field_behind name left None → f None ≡ Ok x → IsRead f name d left x
read_first f name d left x whole none = (None, whole, none)

pub read_again : {A E : Type 0} (f : Option Data → Result A E) (name : List ℕ) (d : Data) (old new us : List Token)
    (k : List ℕ) (x y : A) → IsRead f name d old x → IsNextMember k us old new → bytes_eq k name ≡ true
    → f (present (Some (data_at us))) ≡ Ok y → IsRead f name d new y
read_again f name d old new us k x y before next same here = (
  present (Some (data_at us)),
  before.1 ∙ next name before.0
      ∙ ap (λ b. field_behind name new (if b then present (Some (data_at us)) else before.0)) same,
  here,
)

pub read_other : {A E : Type 0} (f : Option Data → Result A E) (name : List ℕ) (d : Data) (old new us : List Token)
    (k : List ℕ) (x : A) → IsRead f name d old x → IsNextMember k us old new → bytes_eq k name ≡ false
    → IsRead f name d new x
read_other f name d old new us k x before next other = (
  before.0,
  before.1 ∙ next name before.0
      ∙ ap (λ b. field_behind name new (if b then present (Some (data_at us)) else before.0)) other,
  before.2,
)

pub read_whole : {A E : Type 0} (f : Option Data → Result A E) (name : List ℕ) (d : Data) (left : List Token) (x : A)
    → IsRead f name d left x → AreAllPassed left → f (field_at name d) ≡ Ok x
read_whole f name d left x before passed = ap f (before.1 ∙ passed name before.0) ∙ before.2
