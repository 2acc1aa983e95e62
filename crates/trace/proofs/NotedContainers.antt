-- What the containers show, listing by listing and result by result.
use Rattle.std.proofs.Common.{◌≡◌, ◌∙◌, ℕ, suc, zero, ◌+◌, ◌<◌, ◌≤◌, ◌==◌, ◌||◌, ◌&&◌, Bool, true, false, cond}
use Rattle.std.proofs.Common.{List, [], ◌∷◌, ◌++◌, length, get_or, Option, Some, None, is_some, refl, ap, sym}
use Rattle.std.proofs.Common.{subst, arith}
use Rattle.std.specs.List.{list_any}
use Rattle.std.proofs.Math.ListN.{set}
use Rattle.std.proofs.lemmas.Bool.{eqb-true, eq-eqb}
use Rattle.std.proofs.lemmas.List.Folds.{list_any-append}
use Rattle.manifest.specs.declared.outcome.Outcome.{Outcome}
use Rattle.manifest.specs.declared.outcome.ProbeKind.{ProbeKind}
use Rattle.manifest.specs.declared.outcome.ProbeKind.TheVariants.{Startup, Liveness, Readiness}
use Rattle.manifest.specs.declared.pod.ContainerSpec.{ContainerSpec}
use Rattle.manifest.specs.rule.ProbeKinds.{place}
use Rattle.observations.specs.declared.container.ContainerObs.{ContainerObs}
use Rattle.state_diff.specs.declared.seen.Seen.{Seen}
use Rattle.trace.specs.declared.placing.PlacedListing.{PlacedListing}
use Rattle.trace.specs.declared.placing.PlacedResult.{PlacedResult}
use Rattle.trace.specs.state.Noted.{is_listed, has_result, NotesListing, NotesResult}
use Rattle.trace.specs.rule.Observed.{seen_listed, seen_in, outcome_in, results_in, containers_from, lacks_code}
use Rattle.trace.specs.rule.Placing.{has_twice, are_of_one_container, are_of_one_probe, is_of_probe}
use Rattle.trace.proofs.Twice.{turned, twice_more}

-- ---- one item more

one_container_turned : (l m : PlacedListing) → are_of_one_container l m ≡ are_of_one_container m l
one_container_turned l m = turned l.container m.container

one_probe_turned : (r s : PlacedResult) → are_of_one_probe r s ≡ are_of_one_probe s r
one_probe_turned r s =
    ap (λ (b : Bool). b && (place r.probe == place s.probe)) (turned r.container s.container)
    ∙ ap (λ (b : Bool). (s.container == r.container) && b) (turned (place r.probe) (place s.probe))

-- a listing of a container that is not listed yet
pub listed_once : (ls : List PlacedListing) (l : PlacedListing) → has_twice are_of_one_container ls ≡ false
    → is_listed ls l.container ≡ false → has_twice are_of_one_container (ls ++ l ∷ []) ≡ false
listed_once ls l once new = twice_more are_of_one_container one_container_turned ls l ∙ rw (once, new) refl

-- a result of a probe that has none yet
pub result_once : (rs : List PlacedResult) (r : PlacedResult) → has_twice are_of_one_probe rs ≡ false
    → has_result rs r ≡ false → has_twice are_of_one_probe (rs ++ r ∷ []) ≡ false
result_once rs r once new = twice_more are_of_one_probe one_probe_turned rs r ∙ rw (once, new) refl

-- a listing that is not at fault
pub coded_more : (ls : List PlacedListing) (l : PlacedListing) → list_any (λ m. lacks_code m.instance) ls ≡ false
    → lacks_code l.instance ≡ false → list_any (λ m. lacks_code m.instance) (ls ++ l ∷ []) ≡ false
coded_more ls l coded here = list_any-append (λ m. lacks_code m.instance) ls (l ∷ []) ∙ rw (coded, here) refl

-- ---- the first item that is looked for

abbrev found : {A B : Type 0} → (A → Bool) → (A → B) → List A → Option B
found is show [] = None
found is show (x ∷ xs) = cond (is x) (Some (show x)) (found is show xs)

some_later : {B : Type 0} (b : Bool) (here : B) (o : Option B) → is_some (cond b (Some here) o) ≡ (b || is_some o)
some_later true here o = refl
some_later false here o = refl

found_some : {A B : Type 0} (is : A → Bool) (show : A → B) (xs : List A) → is_some (found is show xs) ≡ list_any is xs
found_some is show [] = refl
found_some is show (x ∷ xs) = some_later (is x) (show x) (found is show xs)
    ∙ ap (λ (b : Bool). is x || b) (found_some is show xs)

-- it is not the item that is added
found_before : {A B : Type 0} (is : A → Bool) (show : A → B) (xs : List A) (x : A) → is x ≡ false
    → found is show (xs ++ x ∷ []) ≡ found is show xs
found_before is show [] x other = rw other refl
found_before is show (y ∷ ys) x other =
    ap (λ o. cond (is y) (Some (show y)) o) (found_before is show ys x other)

new_step : {B : Type 0} (b any : Bool) (here : B) (rest : Option B) (x : B) → (b || any) ≡ false
    → (any ≡ false → rest ≡ Some x) → cond b (Some here) rest ≡ Some x
new_step true any here rest x e h = absurd (cc)
new_step false any here rest x e h = h e

-- it is, where there is none before
found_new : {A B : Type 0} (is : A → Bool) (show : A → B) (xs : List A) (x : A) → list_any is xs ≡ false
    → is x ≡ true → found is show (xs ++ x ∷ []) ≡ Some (show x)
found_new is show [] x none here = rw here refl
found_new is show (y ∷ ys) x none here =
    new_step (is y) (list_any is ys) (show y) (found is show (ys ++ x ∷ [])) (show x) none
    (λ rest. found_new is show ys x rest here)

seen_found : (ls : List PlacedListing) (n : ℕ)
    → seen_in ls n ≡ found (λ l. l.container == n) (λ l. seen_listed l.instance) ls
seen_found [] n = refl
seen_found (l ∷ ls) n = ap (λ o. cond (l.container == n) (Some (seen_listed l.instance)) o) (seen_found ls n)

outcome_found : (rs : List PlacedResult) (n : ℕ) (probe : ProbeKind)
    → outcome_in rs n probe ≡ found (λ r. is_of_probe r n probe) (λ r. r.outcome) rs
outcome_found [] n probe = refl
outcome_found (r ∷ rs) n probe = ap (λ o. cond (is_of_probe r n probe) (Some r.outcome) o) (outcome_found rs n probe)

pub seen_some : (ls : List PlacedListing) (n : ℕ) → is_some (seen_in ls n) ≡ is_listed ls n
seen_some ls n = ap (λ (o : Option Seen). is_some o) (seen_found ls n) ∙ found_some _ _ ls

seen_before : (ls : List PlacedListing) (l : PlacedListing) (n : ℕ) → (l.container == n) ≡ false
    → seen_in (ls ++ l ∷ []) n ≡ seen_in ls n
seen_before ls l n other = seen_found (ls ++ l ∷ []) n
    ∙ found_before (λ (m : PlacedListing). m.container == n) (λ m. seen_listed m.instance) ls l other
    ∙ sym (seen_found ls n)

seen_new : (ls : List PlacedListing) (l : PlacedListing) (n : ℕ) → is_listed ls n ≡ false → (l.container == n) ≡ true
    → seen_in (ls ++ l ∷ []) n ≡ Some (seen_listed l.instance)
seen_new ls l n none here = seen_found (ls ++ l ∷ []) n
    ∙ found_new (λ (m : PlacedListing). m.container == n) (λ m. seen_listed m.instance) ls l none here

pub outcome_some : (rs : List PlacedResult) (n : ℕ) (probe : ProbeKind)
    → is_some (outcome_in rs n probe) ≡ list_any (λ r. is_of_probe r n probe) rs
outcome_some rs n probe = ap (λ (o : Option Outcome). is_some o) (outcome_found rs n probe) ∙ found_some _ _ rs

outcome_before : (rs : List PlacedResult) (w : PlacedResult) (n : ℕ) (probe : ProbeKind) → is_of_probe w n probe ≡ false
    → outcome_in (rs ++ w ∷ []) n probe ≡ outcome_in rs n probe
outcome_before rs w n probe other = outcome_found (rs ++ w ∷ []) n probe
    ∙ found_before (λ (r : PlacedResult). is_of_probe r n probe) (λ r. r.outcome) rs w other
    ∙ sym (outcome_found rs n probe)

outcome_new : (rs : List PlacedResult) (w : PlacedResult) (n : ℕ) (probe : ProbeKind)
    → list_any (λ r. is_of_probe r n probe) rs ≡ false → is_of_probe w n probe ≡ true
    → outcome_in (rs ++ w ∷ []) n probe ≡ Some w.outcome
outcome_new rs w n probe none here = outcome_found (rs ++ w ∷ []) n probe
    ∙ found_new (λ (r : PlacedResult). is_of_probe r n probe) (λ r. r.outcome) rs w none here

-- ---- the container that changes

abbrev pub shown : List PlacedListing → List PlacedResult → ℕ → ContainerObs
shown ls rs n = record { seen = seen_in ls n; results = results_in rs n }

-- what stands at a container's number
pub container_at : (ls : List PlacedListing) (rs : List PlacedResult) (n : ℕ) (cs : List ContainerSpec) (k : ℕ)
    (d : ContainerObs) → k < length (containers_from ls rs n cs)
    → get_or (containers_from ls rs n cs) k d ≡ shown ls rs (n + k)
container_at ls rs n [] k d lt = absurd (omega (arith, lt))
container_at ls rs n (c ∷ cs) zero d lt = ap (shown ls rs) (omega arith)
container_at ls rs n (c ∷ cs) (suc k) d lt =
    container_at ls rs (n + 1) cs k d (omega (arith, lt)) ∙ ap (shown ls rs) (omega arith)

pub same_from : (ls ms : List PlacedListing) (rs ss : List PlacedResult) (n : ℕ) (cs : List ContainerSpec)
    → ((m : ℕ) → n ≤ m → shown ls rs m ≡ shown ms ss m) → containers_from ls rs n cs ≡ containers_from ms ss n cs
same_from ls ms rs ss n [] same = refl
same_from ls ms rs ss n (c ∷ cs) same =
    ap (λ (o : ContainerObs). o ∷ containers_from ls rs (n + 1) cs) (same n (omega arith))
    ∙ ap (λ (os : List ContainerObs). shown ms ss n ∷ os)
    (same_from ls ms rs ss (n + 1) cs (λ m le. same m (omega (arith, le))))

-- one container changes, and no other
pub changed_at : (ls ms : List PlacedListing) (rs ss : List PlacedResult) (n : ℕ) (cs : List ContainerSpec) (k : ℕ)
    → ((m : ℕ) → (m ≡ n + k → ⊥) → shown ls rs m ≡ shown ms ss m)
    → set (containers_from ls rs n cs) k (shown ms ss (n + k)) ≡ containers_from ms ss n cs
changed_at ls ms rs ss n [] k same = refl
changed_at ls ms rs ss n (c ∷ cs) zero same =
    ap (λ (o : ContainerObs). o ∷ containers_from ls rs (n + 1) cs) (ap (shown ms ss) (omega arith))
    ∙ ap (λ (os : List ContainerObs). shown ms ss n ∷ os)
    (same_from ls ms rs ss (n + 1) cs (λ m le. same m (λ is. omega (arith, le, is))))
changed_at ls ms rs ss n (c ∷ cs) (suc k) same =
    ap (λ (o : ContainerObs). o ∷ set (containers_from ls rs (n + 1) cs) k (shown ms ss (n + suc k)))
    (same n (λ is. omega (arith, is)))
    ∙ ap (λ (m : ℕ). shown ms ss n ∷ set (containers_from ls rs (n + 1) cs) k (shown ms ss m)) (omega arith)
    ∙ ap (λ (os : List ContainerObs). shown ms ss n ∷ os)
    (changed_at ls ms rs ss (n + 1) cs k (λ m other. same m (λ is. other (omega (arith, is)))))

-- ---- a listing

abbrev pub from_zero : {A : Type 0} (f : ℕ → A) (k : ℕ) → f (0 + k) ≡ f k
from_zero f k = ap f (omega arith)

-- what stands where the listing's container does
here_shown : (all : List ContainerObs) (here : ContainerObs) (k : ℕ) (ls : List PlacedListing) (rs : List PlacedResult)
    (cs : List ContainerSpec) → k < length all → here ≡ get_or all k here → all ≡ containers_from ls rs 0 cs
    → here ≡ shown ls rs k
here_shown all here k ls rs cs lt is same =
    let within : k < length (containers_from ls rs 0 cs) = subst (λ (os : List ContainerObs). k < length os) same lt in
    is ∙ ap (λ (os : List ContainerObs). get_or os k here) same ∙ container_at ls rs 0 cs k here within
    ∙ from_zero (shown ls rs) k

listed_here : (all : List ContainerObs) (here : ContainerObs) (k : ℕ) (ls : List PlacedListing) (rs : List PlacedResult)
    (cs : List ContainerSpec) → k < length all → here ≡ get_or all k here → all ≡ containers_from ls rs 0 cs
    → is_some here.seen ≡ is_listed ls k
listed_here all here k ls rs cs lt is same =
    ap (λ (o : ContainerObs). is_some o.seen) (here_shown all here k ls rs cs lt is same) ∙ seen_some ls k

pub listing_earlier : (listing : PlacedListing) (all : List ContainerObs) (here : ContainerObs)
    → listing.container < length all → here ≡ get_or all listing.container here → is_some here.seen ≡ true
    → NotesListing listing all all true
listing_earlier listing all here lt is some = record {
  earlier = λ ls rs cs same. sym some ∙ listed_here all here listing.container ls rs cs lt is same;
  noted = λ ls rs cs same e. absurd (cc);
}

unequal : (a b : ℕ) (t : Bool) → (a == b) ≡ t → (b ≡ a → ⊥) → t ≡ false
unequal a b true e other = absurd (other (sym (eqb-true a b e)))
unequal a b false e other = refl

equal : (a : ℕ) → (a == a) ≡ true
equal a = eq-eqb a a refl

listing_set : (listing : PlacedListing) (ls : List PlacedListing) (rs : List PlacedResult) (cs : List ContainerSpec)
    → is_listed ls listing.container ≡ false
    → set (containers_from ls rs 0 cs) listing.container
    (record { seen = Some (seen_listed listing.instance); results = results_in rs listing.container })
    ≡ containers_from (ls ++ listing ∷ []) rs 0 cs
listing_set listing ls rs cs new =
    let k = listing.container in
    ap (λ (o : ContainerObs). set (containers_from ls rs 0 cs) k o)
    (ap (λ (s : Option Seen). record { seen = s; results = results_in rs k })
    (sym (seen_new ls listing k new (equal k))) ∙ sym (from_zero (shown (ls ++ listing ∷ []) rs) k))
    ∙ changed_at ls (ls ++ listing ∷ []) rs rs 0 cs k (λ m other.
    ap (λ (s : Option Seen). record { seen = s; results = results_in rs m })
    (sym (seen_before ls listing m (unequal k m (k == m) refl (λ is. other (omega (arith, is)))))))

pub listing_noted : (listing : PlacedListing) (all : List ContainerObs) (here there : ContainerObs) (s : Seen)
    → listing.container < length all → here ≡ get_or all listing.container here
    → there ≡ get_or all listing.container there → is_some here.seen ≡ false → s ≡ seen_listed listing.instance
    → NotesListing listing all (set all listing.container
    (record { seen = Some s; results = (get_or all listing.container there).results })) false
listing_noted listing all here there s lt is is_there none seen = record {
  earlier = λ ls rs cs same. sym none ∙ listed_here all here listing.container ls rs cs lt is same;
  noted = λ ls rs cs same e.
      let k = listing.container in
      let at : get_or all k there ≡ shown ls rs k = sym is_there ∙ here_shown all there k ls rs cs lt is_there same in
      let new : is_listed ls k ≡ false = sym (listed_here all here k ls rs cs lt is same) ∙ none in
      ap (λ (t : Seen). set all k (record { seen = Some t; results = (get_or all k there).results })) seen
      ∙ ap (λ (o : ContainerObs). set all k
      (record { seen = Some (seen_listed listing.instance); results = o.results })) at
      ∙ ap (λ (os : List ContainerObs). set os k
      (record { seen = Some (seen_listed listing.instance); results = results_in rs k })) same
      ∙ listing_set listing ls rs cs new;
}

-- ---- a probe's result

outcome_at : (rs : List PlacedResult) (n : ℕ) (probe : ProbeKind)
    → get_or (results_in rs n) (place probe) None ≡ outcome_in rs n probe
outcome_at rs n Startup = refl
outcome_at rs n Liveness = refl
outcome_at rs n Readiness = refl

result_here : (all : List ContainerObs) (here : ContainerObs) (w : PlacedResult) (at : ℕ) (ls : List PlacedListing)
    (rs : List PlacedResult) (cs : List ContainerSpec) → w.container < length all → here ≡ get_or all w.container here
    → at ≡ place w.probe → all ≡ containers_from ls rs 0 cs
    → is_some (get_or (get_or all w.container here).results at None) ≡ has_result rs w
result_here all here w at ls rs cs lt is placed same =
    let shows = sym is ∙ here_shown all here w.container ls rs cs lt is same in
    ap (λ (o : ContainerObs). is_some (get_or o.results at None)) shows
    ∙ ap (λ (k : ℕ). is_some (get_or (results_in rs w.container) k None)) placed
    ∙ ap (λ (o : Option Outcome). is_some o) (outcome_at rs w.container w.probe)
    ∙ outcome_some rs w.container w.probe

pub result_earlier : (w : PlacedResult) (all : List ContainerObs) (here : ContainerObs) (at : ℕ)
    → w.container < length all → here ≡ get_or all w.container here → at ≡ place w.probe
    → is_some (get_or (get_or all w.container here).results at None) ≡ true → NotesResult w all all true
result_earlier w all here at lt is placed some = record {
  earlier = λ ls rs cs same. sym some ∙ result_here all here w at ls rs cs lt is placed same;
  noted = λ ls rs cs same e. absurd (cc);
}

is_of_it : (w : PlacedResult) (p : ProbeKind) → w.probe ≡ p → is_of_probe w w.container p ≡ true
is_of_it w p is =
    ap (λ (q : ProbeKind). (w.container == w.container) && (place q == place p)) is
    ∙ rw (equal w.container, equal (place p)) refl

never : (b : Bool) → (b && false) ≡ false
never true = refl
never false = refl

is_of_other : (w : PlacedResult) (n : ℕ) (p q : ProbeKind) → w.probe ≡ p → (place p == place q) ≡ false
    → is_of_probe w n q ≡ false
is_of_other w n p q is other =
    ap (λ (o : ProbeKind). (w.container == n) && (place o == place q)) is
    ∙ ap (λ (b : Bool). (w.container == n) && b) other ∙ never (w.container == n)

three : (a b c d e f : Option Outcome) → a ≡ d → b ≡ e → c ≡ f → a ∷ b ∷ c ∷ [] ≡ d ∷ e ∷ f ∷ []
three a b c d e f first second third = rw (first, second, third) refl

results_set : (rs : List PlacedResult) (w : PlacedResult) (p : ProbeKind) → w.probe ≡ p
    → list_any (λ r. is_of_probe r w.container p) rs ≡ false
    → set (results_in rs w.container) (place p) (Some w.outcome) ≡ results_in (rs ++ w ∷ []) w.container
results_set rs w Startup is new =
    three _ _ _ _ _ _ (sym (outcome_new rs w w.container Startup new (is_of_it w Startup is)))
    (sym (outcome_before rs w w.container Liveness (is_of_other w w.container Startup Liveness is refl)))
    (sym (outcome_before rs w w.container Readiness (is_of_other w w.container Startup Readiness is refl)))
results_set rs w Liveness is new =
    three _ _ _ _ _ _
    (sym (outcome_before rs w w.container Startup (is_of_other w w.container Liveness Startup is refl)))
    (sym (outcome_new rs w w.container Liveness new (is_of_it w Liveness is)))
    (sym (outcome_before rs w w.container Readiness (is_of_other w w.container Liveness Readiness is refl)))
results_set rs w Readiness is new =
    three _ _ _ _ _ _
    (sym (outcome_before rs w w.container Startup (is_of_other w w.container Readiness Startup is refl)))
    (sym (outcome_before rs w w.container Liveness (is_of_other w w.container Readiness Liveness is refl)))
    (sym (outcome_new rs w w.container Readiness new (is_of_it w Readiness is)))

is_elsewhere : (w : PlacedResult) (n : ℕ) (q : ProbeKind) → (w.container == n) ≡ false → is_of_probe w n q ≡ false
is_elsewhere w n q other = ap (λ (b : Bool). b && (place w.probe == place q)) other

results_elsewhere : (rs : List PlacedResult) (w : PlacedResult) (n : ℕ) → (w.container == n) ≡ false
    → results_in rs n ≡ results_in (rs ++ w ∷ []) n
results_elsewhere rs w n other =
    three _ _ _ _ _ _ (sym (outcome_before rs w n Startup (is_elsewhere w n Startup other)))
    (sym (outcome_before rs w n Liveness (is_elsewhere w n Liveness other)))
    (sym (outcome_before rs w n Readiness (is_elsewhere w n Readiness other)))

result_set : (w : PlacedResult) (ls : List PlacedListing) (rs : List PlacedResult) (cs : List ContainerSpec)
    → has_result rs w ≡ false
    → set (containers_from ls rs 0 cs) w.container (record {
      seen = seen_in ls w.container;
      results = set (results_in rs w.container) (place w.probe) (Some w.outcome);
    }) ≡ containers_from ls (rs ++ w ∷ []) 0 cs
result_set w ls rs cs new =
    let k = w.container in
    ap (λ (o : ContainerObs). set (containers_from ls rs 0 cs) k o)
    (ap (λ (os : List (Option Outcome)). record { seen = seen_in ls k; results = os })
    (results_set rs w w.probe refl new)
    ∙ sym (from_zero (shown ls (rs ++ w ∷ [])) k))
    ∙ changed_at ls ls rs (rs ++ w ∷ []) 0 cs k (λ m other.
    ap (λ (os : List (Option Outcome)). record { seen = seen_in ls m; results = os })
    (results_elsewhere rs w m (unequal k m (k == m) refl (λ is. other (omega (arith, is))))))

pub result_noted : (w : PlacedResult) (all : List ContainerObs) (here there : ContainerObs) (at : ℕ)
    → w.container < length all → here ≡ get_or all w.container here → there ≡ get_or all w.container there
    → at ≡ place w.probe → is_some (get_or (get_or all w.container here).results at None) ≡ false
    → NotesResult w all (set all w.container (record {
      seen = (get_or all w.container there).seen;
      results = set (get_or all w.container there).results at (Some w.outcome);
    })) false
result_noted w all here there at lt is is_there placed none = record {
  earlier = λ ls rs cs same. sym none ∙ result_here all here w at ls rs cs lt is placed same;
  noted = λ ls rs cs same e.
      let k = w.container in
      let shows : get_or all k there ≡ shown ls rs k =
      sym is_there ∙ here_shown all there k ls rs cs lt is_there same in
      let new : has_result rs w ≡ false = sym (result_here all here w at ls rs cs lt is placed same) ∙ none in
      ap (λ (o : ContainerObs). set all k (record { seen = o.seen; results = set o.results at (Some w.outcome) })) shows
      ∙ ap (λ (os : List ContainerObs). set os k
      (record { seen = seen_in ls k; results = set (results_in rs k) at (Some w.outcome) })) same
      ∙ ap (λ (p : ℕ). set (containers_from ls rs 0 cs) k
      (record { seen = seen_in ls k; results = set (results_in rs k) p (Some w.outcome) })) placed
      ∙ result_set w ls rs cs new;
}
