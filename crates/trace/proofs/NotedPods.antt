-- What entries show of the pods, put at the pods' numbers, entry by entry.
use Rattle.std.proofs.Common.{◌≡◌, ◌∙◌, ℕ, zero, suc, ◌+◌, ◌<◌, ◌==◌, ◌||◌, Bool, true, false, cond, List, []}
use Rattle.std.proofs.Common.{◌∷◌, ◌++◌, length, get_or, Option, Some, None, is_some, refl, ap, sym, arith, All}
use Rattle.std.proofs.Common.{◌≤◌, take, drop, replicate}
use Rattle.std.specs.Prelude.{slice_get}
use Rattle.std.proofs.Math.ListN.{set}
use Rattle.std.proofs.lemmas.Bool.{eqb-true, eq-eqb}
use Rattle.std.proofs.lemmas.List.{append-nil, drop_all, take_all}
use Rattle.std.proofs.lemmas.List.Elements.{All-head, All-tail}
use Rattle.std.proofs.lemmas.Option.{slice_get_within}
use Rattle.manifest.specs.declared.pod.PodSpec.{PodSpec}
use Rattle.observations.specs.rule.Pods.{PodObs}
use Rattle.roster.specs.rule.Roll.{Roll, present_keys, number_of, is_present}
use Rattle.roster.proofs.Found.{number_there}
use Rattle.roster.proofs.Present.{present_length}
use Rattle.trace.specs.declared.placing.PlacedEntry.{PlacedEntry}
use Rattle.trace.specs.rule.Observed.{entry_for, pod_observed, pods_from}
use Rattle.trace.specs.rule.Placing.{has_twice, are_of_one_pod}
use Rattle.trace.proofs.Twice.{turned, twice_more}
use Rattle.trace.specs.state.Slots.{slot_of, slots_from, has_entry, or_present, with_others}

-- the entry of a pod, with one entry more that is of another pod
pub entry_other : (es : List PlacedEntry) (e : PlacedEntry) (n : ℕ) → (e.pod == n) ≡ false
    → entry_for (es ++ e ∷ []) n ≡ entry_for es n
entry_other [] e n other = rw other refl
entry_other (x ∷ xs) e n other =
    ap (λ (o : Option PlacedEntry). cond (x.pod == n) (Some x) o) (entry_other xs e n other)

entry_first : (b : Bool) (x e : PlacedEntry) (n : ℕ) (rest more : Option PlacedEntry) → cond b (Some x) rest ≡ None
    → (rest ≡ None → more ≡ Some e) → cond b (Some x) more ≡ Some e
entry_first true x e n rest more none later = absurd (cc)
entry_first false x e n rest more none later = later none

-- with one of a pod that has none before it
pub entry_new : (es : List PlacedEntry) (e : PlacedEntry) (n : ℕ) → e.pod ≡ n → entry_for es n ≡ None
    → entry_for (es ++ e ∷ []) n ≡ Some e
entry_new [] e n here none = rw (eq-eqb e.pod n here) refl
entry_new (x ∷ xs) e n here none =
    entry_first (x.pod == n) x e n (entry_for xs n) (entry_for (xs ++ e ∷ []) n) none (entry_new xs e n here)

some_or_later : (b : Bool) (x : PlacedEntry) (o : Option PlacedEntry) → is_some (cond b (Some x) o) ≡ (b || is_some o)
some_or_later true x o = refl
some_or_later false x o = refl

-- a pod has an entry if one is of it
pub has_one : (es : List PlacedEntry) (n : ℕ) → is_some (entry_for es n) ≡ has_entry es n
has_one [] n = refl
has_one (x ∷ xs) n =
    some_or_later (x.pod == n) x (entry_for xs n) ∙ ap (λ (b : Bool). (x.pod == n) || b) (has_one xs n)

none_if : (o : Option PlacedEntry) → is_some o ≡ false → o ≡ None
none_if None e = refl
none_if (Some x) e = absurd (cc)

pub has_none : (es : List PlacedEntry) (n : ℕ) → has_entry es n ≡ false → entry_for es n ≡ None
has_none es n none = none_if (entry_for es n) (has_one es n ∙ none)

differ : (b : Bool) → (b ≡ true → ⊥) → b ≡ false
differ true h = absurd (h refl)
differ false h = refl

-- one entry more of a pod that has none before it makes no pod stand twice
pub apart_more : (es : List PlacedEntry) (e : PlacedEntry) → has_twice are_of_one_pod es ≡ false
    → has_entry es e.pod ≡ false → has_twice are_of_one_pod (es ++ e ∷ []) ≡ false
apart_more es e apart none =
    twice_more are_of_one_pod (λ x y. turned x.pod y.pod) es e ∙ rw (apart, none) refl

-- a pod whose key is found is present
key_present : (pods : List PodSpec) (departures : List (Option ℕ)) (n : ℕ) (key : List ℕ)
    → slice_get (present_keys pods departures) n ≡ Some (Some key) → is_present departures n ≡ true
key_present [] ds n key e = absurd (cc)
key_present (p ∷ ps) [] zero key e = absurd (cc)
key_present (p ∷ ps) [] (suc n) key e = key_present ps [] n key e
key_present (p ∷ ps) (None ∷ ds) zero key e = refl
key_present (p ∷ ps) (None ∷ ds) (suc n) key e = key_present ps ds n key e
key_present (p ∷ ps) (Some t ∷ ds) zero key e = absurd (cc)
key_present (p ∷ ps) (Some t ∷ ds) (suc n) key e = key_present ps ds n key e

-- and one of the pods
pub found_present : (roll : Roll) (key : List ℕ) (n : ℕ) → number_of roll key ≡ Some n
    → (is_present roll.departures n ≡ true) × (n < length roll.pods)
found_present roll key n e =
    let keys = present_keys roll.pods roll.departures in
    let there = number_there keys key n e in
    let lt = slice_get_within keys n (Some key) there in
    (key_present roll.pods roll.departures n key there, omega (arith, lt, present_length roll.pods roll.departures))

-- this many pods, this many slots
pub slots_length : (at : ℕ) (es : List PlacedEntry) (n : ℕ) (ps : List PodSpec)
    → length (slots_from at es n ps) ≡ length ps
slots_length at es n [] = refl
slots_length at es n (p ∷ ps) = ap suc (slots_length at es (n + 1) ps)

-- before the first entry
pub none_shown : (at n : ℕ) (ps : List PodSpec) → replicate (length ps) None ≡ slots_from at [] n ps
none_shown at n [] = refl
none_shown at n (p ∷ ps) = ap (λ (slots : List (Option PodObs)). None ∷ slots) (none_shown at (n + 1) ps)

slot_some : (at : ℕ) (o : Option PlacedEntry) (p : PodSpec) → is_some (slot_of at o p) ≡ is_some o
slot_some at None p = refl
slot_some at (Some e) p = refl

-- something is shown of a pod that has an entry
pub shown_there : (at : ℕ) (es : List PlacedEntry) (n : ℕ) (ps : List PodSpec) (k : ℕ) (slot : Option PodObs)
    → k < length ps → is_some (get_or (slots_from at es n ps) k slot) ≡ has_entry es (n + k)
shown_there at es n [] k slot lt = absurd (omega (arith, lt))
shown_there at es n (p ∷ ps) zero slot lt =
    let here : n ≡ n + 0 = omega arith in
    slot_some at (entry_for es n) p ∙ has_one es n ∙ ap (has_entry es) here
shown_there at es n (p ∷ ps) (suc k) slot lt =
    let there : n + 1 + k ≡ n + suc k = omega arith in
    shown_there at es (n + 1) ps k slot (omega (arith, lt)) ∙ ap (has_entry es) there

-- whether something is shown of a pod, among all
pub shown_earlier : (at : ℕ) (es : List PlacedEntry) (ps : List PodSpec) (slots : List (Option PodObs)) (number : ℕ)
    (slot : Option PodObs) (b : Bool) → slots ≡ slots_from at es 0 ps → number < length ps
    → b ≡ is_some (get_or slots number slot) → b ≡ has_entry es number
shown_earlier at es ps slots number slot b is lt test =
    let first : 0 + number ≡ number = omega arith in
    test
    ∙ ap (λ (all : List (Option PodObs)). is_some (get_or all number slot)) is
    ∙ shown_there at es 0 ps number slot lt
    ∙ ap (has_entry es) first

is_unlike : (a n : ℕ) → (a ≡ n → ⊥) → (a == n) ≡ false
is_unlike a n other = differ (a == n) (λ is. other (eqb-true a n is))

-- what is shown of the pods behind that of one entry more
shown_behind : (at : ℕ) (es : List PlacedEntry) (e : PlacedEntry) (n : ℕ) (ps : List PodSpec) → e.pod < n
    → slots_from at es n ps ≡ slots_from at (es ++ e ∷ []) n ps
shown_behind at es e n [] lt = refl
shown_behind at es e n (p ∷ ps) lt =
    let same = entry_other es e n (is_unlike e.pod n (λ is. omega (arith, lt, is))) in
    ap (λ (o : Option PlacedEntry). slot_of at o p ∷ slots_from at es (n + 1) ps) (sym same)
    ∙ ap (λ (slots : List (Option PodObs)). slot_of at (entry_for (es ++ e ∷ []) n) p ∷ slots)
    (shown_behind at es e (n + 1) ps (omega (arith, lt)))

-- what is shown once one entry more is noted, of a pod that has none before it
pub shown_more : (at : ℕ) (es : List PlacedEntry) (e : PlacedEntry) (n : ℕ) (ps : List PodSpec) (k : ℕ) (p : PodSpec)
    → e.pod ≡ n + k → slice_get ps k ≡ Some p → has_entry es (n + k) ≡ false
    → set (slots_from at es n ps) k (Some (pod_observed at (Some e) p)) ≡ slots_from at (es ++ e ∷ []) n ps
shown_more at es e n [] k p is here none = absurd (cc)
shown_more at es e n (q ∷ ps) zero p is here none =
    let same : q ≡ p = cc in
    let zeroth : n + 0 ≡ n = omega arith in
    let new = entry_new es e n (is ∙ zeroth) (has_none es n (ap (has_entry es) (sym zeroth) ∙ none)) in
    ap (λ (r : PodSpec). Some (pod_observed at (Some e) r) ∷ slots_from at es (n + 1) ps) (sym same)
    ∙ ap (λ (o : Option PlacedEntry). slot_of at o q ∷ slots_from at es (n + 1) ps) (sym new)
    ∙ ap (λ (slots : List (Option PodObs)). slot_of at (entry_for (es ++ e ∷ []) n) q ∷ slots)
    (shown_behind at es e (n + 1) ps (omega (arith, is)))
shown_more at es e n (q ∷ ps) (suc k) p is here none =
    let there : n + suc k ≡ n + 1 + k = omega arith in
    let same = entry_other es e n (is_unlike e.pod n (λ at_n. omega (arith, is, at_n))) in
    let noted = set (slots_from at es (n + 1) ps) k (Some (pod_observed at (Some e) p)) in
    ap (λ (o : Option PlacedEntry). slot_of at o q ∷ noted) (sym same)
    ∙ ap (λ (slots : List (Option PodObs)). slot_of at (entry_for (es ++ e ∷ []) n) q ∷ slots)
    (shown_more at es e (n + 1) ps k p (is ∙ there) here (ap (has_entry es) (sym there) ∙ none))

-- the same among all pods
pub shown_noted : (at : ℕ) (es : List PlacedEntry) (ps : List PodSpec) (e : PlacedEntry) (p : PodSpec)
    (slots : List (Option PodObs)) (number : ℕ) (shown : PodObs) (slot : Option PodObs) → slots ≡ slots_from at es 0 ps
    → e.pod ≡ number → slice_get ps number ≡ Some p → shown ≡ pod_observed at (Some e) p
    → false ≡ is_some (get_or slots number slot)
    → set slots number (Some shown) ≡ slots_from at (es ++ e ∷ []) 0 ps
shown_noted at es ps e p slots number shown slot is here pod says none =
    let first : number ≡ 0 + number = omega arith in
    let lt = slice_get_within ps number p pod in
    let new = shown_earlier at es ps slots number slot false is lt none in
    ap (λ (all : List (Option PodObs)). set all number (Some shown)) is
    ∙ ap (λ (one : PodObs). set (slots_from at es 0 ps) number (Some one)) says
    ∙ shown_more at es e 0 ps number p (here ∙ first) pod (sym (new ∙ ap (has_entry es) first))

-- the pod of an entry is present, if those of all entries are
present_if : (departures : List (Option ℕ)) (es : List PlacedEntry) (n : ℕ)
    → All (λ (e : PlacedEntry). is_present departures e.pod ≡ true) es → is_some (entry_for es n) ≡ true
    → is_present departures n ≡ true
present_if ds [] n all some = absurd (cc)
present_if ds (x ∷ xs) n all some = by (present_if ds xs n) (x.pod == n) refl some
  where
    by : (All (λ (e : PlacedEntry). is_present ds e.pod ≡ true) xs → is_some (entry_for xs n) ≡ true
        → is_present ds n ≡ true) → (b : Bool) → (x.pod == n) ≡ b → is_some (cond b (Some x) (entry_for xs n)) ≡ true
        → is_present ds n ≡ true
    by rest true here is =
        ap (is_present ds) (sym (eqb-true x.pod n here))
        ∙ All-head (λ (e : PlacedEntry). is_present ds e.pod ≡ true) x xs all
    by rest false here is = rest (All-tail (λ (e : PlacedEntry). is_present ds e.pod ≡ true) x xs all) is

other_shown : (at : ℕ) (b : Bool) (o : Option PlacedEntry) (p : PodSpec) → (is_some o ≡ true → b ≡ true)
    → or_present at b p (slot_of at o p) ≡ cond b (Some (pod_observed at o p)) None
other_shown at b None p present = refl
other_shown at b (Some e) p present = rw (present refl) refl

-- with those that have no entry, each of the pods is shown that is present
pub others_shown : (at : ℕ) (es : List PlacedEntry) (departures : List (Option ℕ)) (n : ℕ) (ps : List PodSpec)
    → All (λ (e : PlacedEntry). is_present departures e.pod ≡ true) es
    → with_others at departures n ps (slots_from at es n ps) ≡ pods_from at es departures n ps
others_shown at es ds n [] all = refl
others_shown at es ds n (p ∷ ps) all =
    ap (λ (slots : List (Option PodObs)). or_present at (is_present ds n) p (slot_of at (entry_for es n) p) ∷ slots)
    (others_shown at es ds (n + 1) ps all)
    ∙ ap (λ (slot : Option PodObs). slot ∷ pods_from at es ds (n + 1) ps)
    (other_shown at (is_present ds n) (entry_for es n) p (present_if ds es n all))

-- once the loop over the pods has ended
pub all_shown : (at : ℕ) (es : List PlacedEntry) (departures : List (Option ℕ)) (n : ℕ) (ps pods : List PodSpec)
    (slots old : List (Option PodObs)) → length slots ≡ length ps → length ps ≤ n → ps ≡ pods
    → take n slots ++ with_others at departures n (drop n ps) (drop n slots) ≡ with_others at departures 0 ps old
    → old ≡ slots_from at es 0 pods → All (λ (e : PlacedEntry). is_present departures e.pod ≡ true) es
    → slots ≡ pods_from at es departures 0 pods
all_shown at es ds n ps pods slots old long ended same filled is present =
    let whole : take n slots ++ with_others at ds n (drop n ps) (drop n slots) ≡ slots =
    rw (take_all n slots (omega (arith, long, ended)), drop_all n ps ended) (append-nil slots) in
    sym whole ∙ filled ∙ ap (λ (qs : List PodSpec). with_others at ds 0 qs old) same
    ∙ ap (with_others at ds 0 pods) is ∙ others_shown at es ds 0 pods present
