-- A null in a map changes nothing.
use Rattle.std.proofs.Common.{◌≡◌, ℕ, List, Some, None, Ordering, Less, Equal, Greater, nat_cmp, refl}
use Rattle.std.specs.Cmp.Lexicographic.{slice_cmp}
use Rattle.std.specs.Ordering.{match_ordering}
use Rattle.serde_json.specs.Data.{Data, null, Members, no_members, member, put}
use Rattle.serde_json.specs.Find.{get_member}
use Rattle.json_fields.specs.declared.scope.Scope.{Scope}
use Rattle.json_fields.specs.rule.SignalMaps.{has_stranger}

strangers_at : (o : Ordering) (scope : Scope) (k l : List ℕ) (d : Data) (ms : Members) → slice_cmp nat_cmp k l ≡ o
    → (get_member k ms ≡ None → has_stranger scope (put k null ms) ≡ has_stranger scope ms)
    → match_ordering o (get_member k ms) (Some d) (get_member k ms) ≡ None
    → has_stranger scope (match_ordering o (member k null (member l d ms)) (member l null ms)
    (member l d (put k null ms)))
    ≡ has_stranger scope (member l d ms)
strangers_at Less scope k l d ms is later none = refl
strangers_at Equal scope k l d ms is later none = absurd (cc)
strangers_at Greater scope k l d ms is later none = rw (later none) refl

pub strangers_ignore : (scope : Scope) (k : List ℕ) (ms : Members) → get_member k ms ≡ None
    → has_stranger scope (put k null ms) ≡ has_stranger scope ms
strangers_ignore scope k no_members none = refl
strangers_ignore scope k (member l d ms) none = strangers_at _ scope k l d ms refl (strangers_ignore scope k ms) none
