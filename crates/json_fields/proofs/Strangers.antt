-- The members of an object's data that no name includes are those that come last under their names.
use Rattle.std.proofs.Common.{◌≡◌, ◌&&◌, ◌||◌, ℕ, List, Bool, true, false, not, Ordering, Less, Equal, Greater}
use Rattle.std.proofs.Common.{nat_cmp, is_eq, refl, sym, ap, ◌∙◌, subst}
use Rattle.std.specs.Prelude.{⊤}
use Rattle.std.specs.Str.{bytes_eq}
use Rattle.std.specs.Ordering.{match_ordering, ordering_reverse}
use Rattle.std.specs.Cmp.Lexicographic.{slice_cmp}
use Rattle.std.proofs.lemmas.Cmp.{nat_list_cmp_total}
use Rattle.std.proofs.lemmas.Map.Text.{is_eq-slice_cmp}
use Rattle.std.proofs.lemmas.Slice.Eq.{bytes_eq-Decides}
use Rattle.json.specs.Json as json
use Rattle.serde_json.specs.Data.{Data, Members, no_members, member, put}
use Rattle.json_fields.specs.state.Borrowed.{data_of, members_data, has_name, has_last_stranger}
use Rattle.json_fields.specs.rule.Strangers.{is_stranger, has_stranger}

abbrev cmp : List ℕ → List ℕ → Ordering
cmp = slice_cmp nat_cmp

abbrev AreAbove : List ℕ → Members → Type 0
AreAbove k no_members = ⊤
AreAbove k (member l e ms) = (cmp k l ≡ Less) × AreAbove k ms

abbrev AreSorted : Members → Type 0
AreSorted no_members = ⊤
AreSorted (member l e ms) = AreAbove l ms × AreSorted ms

above_lower : (k l : List ℕ) (ms : Members) → cmp k l ≡ Less → AreAbove l ms → AreAbove k ms
above_lower k l no_members h a = tt
above_lower k l (member m e ms) h a = (nat_list_cmp_total.trans k l m h a.0, above_lower k l ms h a.1)

reversed : (k l : List ℕ) → cmp k l ≡ Greater → cmp l k ≡ Less
reversed k l h = nat_list_cmp_total.antisymm l k ∙ ap ordering_reverse h

above_put_at : (o : Ordering) (low k l : List ℕ) (d e : Data) (ms : Members) → cmp low k ≡ Less → cmp low l ≡ Less
    → AreAbove low ms → AreAbove low (put k d ms)
    → AreAbove low (match_ordering o (member k d (member l e ms)) (member l d ms) (member l e (put k d ms)))
above_put_at Less low k l d e ms here there above later = (here, (there, above))
above_put_at Equal low k l d e ms here there above later = (there, above)
above_put_at Greater low k l d e ms here there above later = (there, later)

above_put : (low k : List ℕ) (d : Data) (ms : Members) → cmp low k ≡ Less → AreAbove low ms → AreAbove low (put k d ms)
above_put low k d no_members here above = (here, tt)
above_put low k d (member l e ms) here above =
    above_put_at (cmp k l) low k l d e ms here above.0 above.1 (above_put low k d ms here above.1)

sorted_put_at : (o : Ordering) (k l : List ℕ) (d e : Data) (ms : Members) → cmp k l ≡ o → AreAbove l ms → AreSorted ms
    → AreSorted (put k d ms)
    → AreSorted (match_ordering o (member k d (member l e ms)) (member l d ms) (member l e (put k d ms)))
sorted_put_at Less k l d e ms is above sorted later = ((is, above_lower k l ms is above), (above, sorted))
sorted_put_at Equal k l d e ms is above sorted later = (above, sorted)
sorted_put_at Greater k l d e ms is above sorted later = (above_put l k d ms (reversed k l is) above, later)

sorted_put : (k : List ℕ) (d : Data) (ms : Members) → AreSorted ms → AreSorted (put k d ms)
sorted_put k d no_members sorted = (tt, tt)
sorted_put k d (member l e ms) sorted =
    sorted_put_at _ k l d e ms refl sorted.0 sorted.1 (sorted_put k d ms sorted.1)

-- a stranger whose name passes the test
abbrev among : (List ℕ → Bool) → (List ℕ → Bool) → Members → Bool
among test includes no_members = false
among test includes (member l d ms) = (is_stranger includes l d && test l) || among test includes ms

abbrev apart : List ℕ → (List ℕ → Bool) → List ℕ → Bool
apart k test l = not (bytes_eq k l) && test l

eq_at : (o : Ordering) (k l : List ℕ) → cmp k l ≡ o → bytes_eq k l ≡ is_eq o
eq_at o k l is = sym (is_eq-slice_cmp k l) ∙ ap is_eq is

-- what stands above a name is not under it
absent : (test includes : List ℕ → Bool) (k : List ℕ) (ms : Members) → AreAbove k ms
    → among (apart k test) includes ms ≡ among test includes ms
absent test includes k no_members above = refl
absent test includes k (member l e ms) above =
    rw (eq_at Less k l above.0, absent test includes k ms above.1) refl

and_false : (a : Bool) → a && false ≡ false
and_false true = refl
and_false false = refl

swap : (a b c : Bool) → a || (b || c) ≡ b || (a || c)
swap true true c = refl
swap true false c = refl
swap false true c = refl
swap false false c = refl

among_put_at : (o : Ordering) (test includes : List ℕ → Bool) (k l : List ℕ) (d e : Data) (ms : Members) → cmp k l ≡ o
    → AreAbove l ms
    → among test includes (put k d ms) ≡ (is_stranger includes k d && test k) || among (apart k test) includes ms
    → among test includes (match_ordering o (member k d (member l e ms)) (member l d ms) (member l e (put k d ms)))
    ≡ (is_stranger includes k d && test k) || among (apart k test) includes (member l e ms)
among_put_at Less test includes k l d e ms is above later =
    ap (λ b. (is_stranger includes k d && test k) || b)
    (sym (absent test includes k (member l e ms) (is, above_lower k l ms is above)))
among_put_at Equal test includes k l d e ms is above later =
    let tied = eq_at Equal k l is in
    let same : k ≡ l = (bytes_eq-Decides k l).0 tied in
    let below : AreAbove k ms = subst (λ n. AreAbove n ms) (sym same) above in
    rw (tied, and_false (is_stranger includes l e), absent test includes k ms below)
    (ap (λ n. (is_stranger includes n d && test n) || among test includes ms) (sym same))
among_put_at Greater test includes k l d e ms is above later =
    rw (eq_at Greater k l is, later) (swap (is_stranger includes l e && test l) _ _)

among_put : (test includes : List ℕ → Bool) (k : List ℕ) (d : Data) (ms : Members) → AreSorted ms
    → among test includes (put k d ms) ≡ (is_stranger includes k d && test k) || among (apart k test) includes ms
among_put test includes k d no_members sorted = refl
among_put test includes k d (member l e ms) sorted =
    among_put_at _ test includes k l d e ms refl sorted.0 (among_put test includes k d ms sorted.1)

among_same : (test other includes : List ℕ → Bool) → ((l : List ℕ) → test l ≡ other l) → (ms : Members)
    → among test includes ms ≡ among other includes ms
among_same test other includes same no_members = refl
among_same test other includes same (member l d ms) = rw (same l, among_same test other includes same ms) refl

outside : (a b : Bool) → not a && not b ≡ not (a || b)
outside true b = refl
outside false b = refl

abbrev other_than : json.Members → List ℕ → Bool
other_than ms l = not (has_name l ms)

gathered : (a b c : Bool) → a || (b || c) ≡ (b || a) || c
gathered true true c = refl
gathered true false c = refl
gathered false true c = refl
gathered false false c = refl

kept : (a b : Bool) → a || b ≡ (a && true) || b
kept true b = refl
kept false b = refl

among_data : (includes : List ℕ → Bool) (ms : json.Members) (before : Members) → AreSorted before
    → among (λ l. true) includes (members_data ms before)
    ≡ has_last_stranger includes ms || among (other_than ms) includes before
among_data includes json.no_members before sorted = among_same _ _ includes (λ l. refl) before
among_data includes (json.member k j ms) before sorted =
    among_data includes ms (put k (data_of j) before) (sorted_put k (data_of j) before sorted)
    ∙ ap (λ b. has_last_stranger includes ms || b)
    (among_put (other_than ms) includes k (data_of j) before sorted
    ∙ ap (λ b. (is_stranger includes k (data_of j) && other_than ms k) || b)
    (among_same _ _ includes (λ l. outside (bytes_eq k l) (has_name l ms)) before))
    ∙ gathered (has_last_stranger includes ms) (is_stranger includes k (data_of j) && other_than ms k) _

all_among : (includes : List ℕ → Bool) (ms : Members) → has_stranger includes ms ≡ among (λ l. true) includes ms
all_among includes no_members = refl
all_among includes (member l d ms) = rw (all_among includes ms) (kept (is_stranger includes l d) _)

nothing_after : (a : Bool) → a || false ≡ a
nothing_after true = refl
nothing_after false = refl

pub stranger_in_data : (includes : List ℕ → Bool) (ms : json.Members)
    → has_stranger includes (members_data ms no_members) ≡ has_last_stranger includes ms
stranger_in_data includes ms =
    all_among includes (members_data ms no_members) ∙ among_data includes ms no_members tt
    ∙ nothing_after (has_last_stranger includes ms)
