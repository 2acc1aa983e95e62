-- What a tick shows of a container is what is listed.
use Rattle.std.proofs.Common.{◌≡◌, ◌∙◌, ℕ, zero, suc, ◌+◌, ◌<◌, Bool, true, false, List, [], ◌∷◌, length, slice_get}
use Rattle.std.proofs.Common.{Option, Some, None, refl, ap, sym, subst, inl, inr, arith}
use Rattle.std.specs.Prelude.{◌==◌, option_and_then, if◌then◌else◌}
use Rattle.std.specs.List.{list_any}
use Rattle.std.specs.Option.{option_flatten}
use Rattle.std.proofs.lemmas.Bool.{cases_Bool, or_parts, eqb-true, eq-eqb}
use Rattle.std.proofs.lemmas.Map.Keys.{any_passes_from_place}
use Rattle.state_diff.specs.declared.seen.Seen.{Seen}
use Rattle.tick_lines.specs.declared.listing.ListedInstance.{ListedInstance}
use Rattle.tick_lines.specs.declared.line.TickLine.{TickLine}
use Rattle.trace.specs.declared.placing.PlacedListing.{PlacedListing}
use Rattle.manifest.specs.declared.pod.ContainerSpec.{ContainerSpec}
use Rattle.manifest.specs.declared.pod.PodSpec.{PodSpec}
use Rattle.observations.specs.declared.container.ContainerObs.{ContainerObs}
use Rattle.observations.specs.rule.Pods.{PodObs}
use Rattle.observations.specs.rule.Observations.{listed_in, shown_of}
use Rattle.observations.specs.state.Observations.{seen_of}
use Rattle.roster.specs.rule.Roll.{Roll, is_present}
use Rattle.trace.specs.declared.placing.PlacedEntry.{PlacedEntry}
use Rattle.trace.specs.declared.placing.PlacedResult.{PlacedResult}
use Rattle.trace.specs.rule.Placing.{has_twice, are_of_one_pod, are_of_one_container, repeats, is_doubled}
use Rattle.trace.specs.rule.Observed.{seen_listed, seen_in, containers_from, entry_for, listings_of, results_of}
use Rattle.trace.specs.rule.Observed.{pod_observed, pods_from, observed}
use Rattle.trace.specs.state.Laws.{IsListed, Lists, ListingsShown}

abbrev listing : ℕ → ListedInstance → PlacedListing
listing n instance = record { container = n; instance = instance }

-- a listing of the container is this one
is_listing : (l : PlacedListing) (n : ℕ) → (l.container == n) ≡ true → l ≡ listing n l.instance
is_listing l n e = ap (λ (c : ℕ). listing c l.instance) (eqb-true l.container n e)

shown : (ls : List PlacedListing) (n : ℕ) (seen : Seen) → seen_in ls n ≡ Some seen → IsListed ls n seen
shown [] n seen e = absurd (cc)
shown (l ∷ ls) n seen e = elim (cases_Bool (l.container == n)) [
  | inl here ↦
      let first : seen_in (l ∷ ls) n ≡ Some (seen_listed l.instance) = rw here refl in
      let same : seen_listed l.instance ≡ seen = cc in
      (0, l.instance, ap Some (is_listing l n here), same)
  | inr other ↦
      let next : seen_in (l ∷ ls) n ≡ seen_in ls n = rw other refl in
      let later = shown ls n seen (sym next ∙ e) in
      (suc later.0, later.1, later.2, later.3)
]

given : (ls : List PlacedListing) (n : ℕ) (instance : ListedInstance) → has_twice are_of_one_container ls ≡ false
    → (m : ℕ) → slice_get ls m ≡ Some (listing n instance)
    → seen_in ls n ≡ Some (seen_listed instance)
given [] n instance once m here = absurd (cc)
given (l ∷ ls) n instance once zero here =
    let is : l ≡ listing n instance = cc in
    let first : (l.container == n) ≡ true = ap (λ (k : PlacedListing). k.container == n) is ∙ eq-eqb n n refl in
    rw first (ap (λ (k : PlacedListing). Some (seen_listed k.instance)) is)
given (l ∷ ls) n instance once (suc m) here =
    let none = or_parts (list_any (λ k. are_of_one_container k l) ls) (has_twice are_of_one_container ls) once in
    elim (cases_Bool (l.container == n)) [
      | inl first ↦
          let alike : are_of_one_container (listing n instance) l ≡ true =
          eq-eqb n l.container (sym (eqb-true l.container n first)) in
          let twice = any_passes_from_place (λ k. are_of_one_container k l) ls m (listing n instance) here alike in
          let never : false ≡ true = sym none.0 ∙ twice in
          absurd (cc)
      | inr other ↦ rw other (given ls n instance none.1 m here)
    ]

is_given : (ls : List PlacedListing) (n : ℕ) (seen : Seen) → has_twice are_of_one_container ls ≡ false
    → IsListed ls n seen → seen_in ls n ≡ Some seen
is_given ls n seen once (m, instance, here, is) = given ls n instance once m here ∙ ap Some is

-- the entry of a pod
pub entry_found : (es : List PlacedEntry) (n : ℕ) (entry : PlacedEntry) → entry_for es n ≡ Some entry
    → (k : ℕ) × (slice_get es k ≡ Some entry) × (entry.pod ≡ n)
entry_found [] n entry e = absurd (cc)
entry_found (x ∷ xs) n entry e = elim (cases_Bool (x.pod == n)) [
  | inl here ↦
      let first : entry_for (x ∷ xs) n ≡ Some x = rw here refl in
      let same : x ≡ entry = cc in
      (0, ap Some same, sym (ap (λ (y : PlacedEntry). y.pod) same) ∙ eqb-true x.pod n here)
  | inr other ↦
      let next : entry_for (x ∷ xs) n ≡ entry_for xs n = rw other refl in
      let later = entry_found xs n entry (sym next ∙ e) in
      (suc later.0, later.1, later.2)
]

pub entry_given : (es : List PlacedEntry) (n : ℕ) (entry : PlacedEntry) → has_twice are_of_one_pod es ≡ false
    → (k : ℕ) → slice_get es k ≡ Some entry → entry.pod ≡ n → entry_for es n ≡ Some entry
entry_given [] n entry once k here is = absurd (cc)
entry_given (x ∷ xs) n entry once zero here is =
    let same : x ≡ entry = cc in
    let first : (x.pod == n) ≡ true = eq-eqb x.pod n (ap (λ (y : PlacedEntry). y.pod) same ∙ is) in
    rw first (ap Some same)
entry_given (x ∷ xs) n entry once (suc k) here is =
    let none = or_parts (list_any (λ y. are_of_one_pod y x) xs) (has_twice are_of_one_pod xs) once in
    elim (cases_Bool (x.pod == n)) [
      | inl first ↦
          let alike : are_of_one_pod entry x ≡ true = eq-eqb entry.pod x.pod (is ∙ sym (eqb-true x.pod n first)) in
          let twice = any_passes_from_place (λ y. are_of_one_pod y x) xs k entry here alike in
          let never : false ≡ true = sym none.0 ∙ twice in
          absurd (cc)
      | inr other ↦ rw other (entry_given xs n entry none.1 k here is)
    ]

once_in : (es : List PlacedEntry) (k : ℕ) (entry : PlacedEntry) → list_any repeats es ≡ false
    → slice_get es k ≡ Some entry → has_twice are_of_one_container entry.listings ≡ false
once_in es k entry none here = elim (cases_Bool (has_twice are_of_one_container entry.listings)) [
  | inl twice ↦
      let repeated : repeats entry ≡ true = rw twice refl in
      let some = any_passes_from_place repeats es k entry here repeated in
      absurd (cc)
  | inr once ↦ once
]

-- what is observed of a container is what the entry of its pod lists
container_at : (ls : List PlacedListing) (rs : List PlacedResult) (n : ℕ) (cs : List ContainerSpec) (c : ℕ)
    → c < length cs
    → option_and_then (λ (o : ContainerObs). o.seen) (slice_get (containers_from ls rs n cs) c) ≡ seen_in ls (n + c)
container_at ls rs n [] c lt = absurd (omega arith)
container_at ls rs n (x ∷ xs) zero lt = let same : n ≡ n + 0 = omega arith in ap (seen_in ls) same
container_at ls rs n (x ∷ xs) (suc c) lt =
    let same : n + 1 + c ≡ n + suc c = omega arith in
    container_at ls rs (n + 1) xs c (omega arith) ∙ ap (seen_in ls) same

-- a pod that is present is shown
shown_at : (present : Bool) (observed : PodObs) → present ≡ true
    → (if present then Some observed else None) ≡ Some observed
shown_at present observed is = rw is refl

pub pod_at : (at : ℕ) (es : List PlacedEntry) (departures : List (Option ℕ)) (n : ℕ) (pods : List PodSpec) (p : ℕ)
    (pod : PodSpec) → slice_get pods p ≡ Some pod → is_present departures (n + p) ≡ true
    → option_flatten (slice_get (pods_from at es departures n pods) p)
    ≡ Some (pod_observed at (entry_for es (n + p)) pod)
pod_at at es departures n [] p pod here present = absurd (cc)
pod_at at es departures n (x ∷ xs) zero pod here present =
    let same : x ≡ pod = cc in
    let place : n + 0 ≡ n = omega arith in
    let stays : is_present departures n ≡ true =
    subst (λ (k : ℕ). is_present departures k ≡ true) place present in
    shown_at (is_present departures n) (pod_observed at (entry_for es n) x) stays
    ∙ ap (λ (q : PodSpec). Some (pod_observed at (entry_for es n) q)) same
    ∙ ap (λ (k : ℕ). Some (pod_observed at (entry_for es k) pod)) (sym place)
pod_at at es departures n (x ∷ xs) (suc p) pod here present =
    let place : n + 1 + p ≡ n + suc p = omega arith in
    let stays : is_present departures (n + 1 + p) ≡ true =
    subst (λ (k : ℕ). is_present departures k ≡ true) (sym place) present in
    pod_at at es departures (n + 1) xs p pod here stays
    ∙ ap (λ (k : ℕ). Some (pod_observed at (entry_for es k) pod)) place

-- a pod that is present, in the whole tick
pub pod_shown : (heeds : Bool) (at : ℕ) (written : TickLine) (es : List PlacedEntry) (roll : Roll) (n : ℕ)
    (pod : PodSpec)
    → slice_get roll.pods n ≡ Some pod → is_present roll.departures n ≡ true
    → shown_of (observed heeds at written es roll) n ≡ Some (pod_observed at (entry_for es n) pod)
pod_shown heeds at written es roll n pod here present =
    let zeroth : 0 + n ≡ n = omega arith in
    let stays : is_present roll.departures (0 + n) ≡ true =
    subst (λ (k : ℕ). is_present roll.departures k ≡ true) (sym zeroth) present in
    pod_at at es roll.departures 0 roll.pods n pod here stays
    ∙ ap (λ (k : ℕ). Some (pod_observed at (entry_for es k) pod)) zeroth

seen_is : (heeds : Bool) (at : ℕ) (written : TickLine) (es : List PlacedEntry) (roll : Roll) (n c : ℕ) (pod : PodSpec)
    → slice_get roll.pods n ≡ Some pod → is_present roll.departures n ≡ true → c < length pod.containers
    → seen_of (observed heeds at written es roll) n c ≡ seen_in (listings_of (entry_for es n)) c
seen_is heeds at written es roll n c pod here present lt =
    let first : 0 + c ≡ c = omega arith in
    let entry = entry_for es n in
    ap (λ (o : Option PodObs). option_and_then (λ (p : PodObs). listed_in p c) o)
    (pod_shown heeds at written es roll n pod here present)
    ∙ container_at (listings_of entry) (results_of entry) 0 pod.containers c lt
    ∙ ap (seen_in (listings_of entry)) first

lists : (es : List PlacedEntry) (n c : ℕ) (seen : Seen) (entry : Option PlacedEntry) → entry_for es n ≡ entry
    → seen_in (listings_of entry) c ≡ Some seen → Lists es n c seen
lists es n c seen None is e = absurd (cc)
lists es n c seen (Some entry) is e =
    let found = entry_found es n entry is in
    (found.0, entry, found.1, found.2, shown entry.listings c seen e)

listed : (es : List PlacedEntry) (n c : ℕ) (seen : Seen) → is_doubled es ≡ false → Lists es n c seen
    → seen_in (listings_of (entry_for es n)) c ≡ Some seen
listed es n c seen apart (k, entry, here, is, given) =
    let parts = or_parts (has_twice are_of_one_pod es) (list_any repeats es) apart in
    let found = entry_given es n entry parts.0 k here is in
    ap (λ (o : Option PlacedEntry). seen_in (listings_of o) c) found
    ∙ is_given entry.listings c seen (once_in es k entry parts.1 here) given

pub listings_shown : ListingsShown
listings_shown heeds at written es roll n c pod seen apart here present lt =
    let is = seen_is heeds at written es roll n c pod here present lt in
    (λ e. lists es n c seen (entry_for es n) refl (sym is ∙ e), λ given. is ∙ listed es n c seen apart given)
