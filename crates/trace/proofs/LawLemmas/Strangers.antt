-- Which entries of a tick line name what isn't known.
use Rattle.std.proofs.Common.{◌≡◌, ◌∙◌, ◌⊎◌, ℕ, zero, suc, Bool, List, [], ◌∷◌, slice_get, Option, Some, None, Result}
use Rattle.std.proofs.Common.{Ok, Err, refl, ap, sym, inl, inr}
use Rattle.json_fields.specs.rule.Reading.{◌>>=◌, some_or, each}
use Rattle.json_fields.proofs.Only.{no_fault, same_fault}
use Rattle.json_fields.proofs.Steps.{bind_err, then_ok, there_is}
use Rattle.lists.specs.rule.Names.{place_of}
use Rattle.manifest.specs.declared.pod.PodSpec.{PodSpec}
use Rattle.manifest.specs.rule.Containers.{names_of}
use Rattle.trace.specs.declared.placing.EntrySaid.{EntrySaid}
use Rattle.line_faults.specs.declared.fault.FaultKind.{FaultKind}
use Rattle.line_faults.specs.declared.fault.FaultKind.TheVariants.{StrangerPod, StrangerContainer}
use Rattle.tick_lines.specs.declared.listing.Listing.{Listing}
use Rattle.tick_lines.specs.declared.entry.TickEntry.{TickEntry}
use Rattle.tick_lines.specs.declared.probing.ProbeResult.{ProbeResult}
use Rattle.tick_lines.specs.declared.resizes.ContainerResize.{ContainerResize}
use Rattle.observations.specs.declared.resize.Resize.{Resize}
use Rattle.trace.specs.declared.placing.PlacedListing.{PlacedListing}
use Rattle.trace.specs.declared.placing.PlacedResult.{PlacedResult}
use Rattle.trace.specs.declared.placing.PlacedEntry.{PlacedEntry}
use Rattle.roster.specs.rule.Roll.{Roll, number_of}
use Rattle.trace.proofs.Keys.{named, unnamed}
use Rattle.trace.specs.rule.Placing.{number_in, pod_numbered, container_number, placed_listing, placed_result}
use Rattle.trace.specs.rule.Placing.{placed_resize, resizes_by, said_in, entry_of_pod, placed_entry, placed_of}
use Rattle.trace.specs.state.Laws.{HasNo, NamesOther, NamesStranger, NamesStrangerContainer, Strangers}
use Rattle.trace.proofs.Placed.{placed, with_results, with_listings, with_pod, with_number}
use Rattle.trace.proofs.LawLemmas.Checks.{then_err}

-- the first item that gives a fault
each_at : {A B E : Type 0} (f : A → Result B E) (xs : List A) (fault : E) → each f xs ≡ Err fault → (n : ℕ) × (x : A)
    × (slice_get xs n ≡ Some x) × (f x ≡ Err fault)
each_at f [] fault e = absurd (no_fault [] fault e)
each_at f (x ∷ xs) fault e = elim (bind_err (f x) (λ y. each f xs >>= λ ys. Ok (y ∷ ys)) fault e) [
  | inl here ↦ (0, x, refl, here)
  | inr later ↦ elim (bind_err (each f xs) (λ ys. Ok (later.0 ∷ ys)) fault later.2) [
    | inl rest ↦ let r = each_at f xs fault rest in (suc r.0, r.1, r.2, r.3)
    | inr done ↦ absurd (no_fault (later.0 ∷ done.0) fault done.2)
  ]
]

first_or_later : {A B E : Type 0} (f : A → Result B E) (fault : E) (y : A) (xs : List A) (r : Result B E) → f y ≡ r
    → ((other : E) → f y ≡ Err other → other ≡ fault) → each f xs ≡ Err fault → each f (y ∷ xs) ≡ Err fault
first_or_later f fault y xs (Ok z) is only later =
    then_ok (f y) (λ z. each f xs >>= λ zs. Ok (z ∷ zs)) z is ∙ then_err (each f xs) (λ zs. Ok (z ∷ zs)) fault later
first_or_later f fault y xs (Err other) is only later =
    then_err (f y) (λ z. each f xs >>= λ zs. Ok (z ∷ zs)) fault (is ∙ ap Err (only other is))

-- some item gives the fault, and no item gives another
each_meets : {A B E : Type 0} (f : A → Result B E) (fault : E) (xs : List A) (n : ℕ) (x : A) → slice_get xs n ≡ Some x
    → f x ≡ Err fault
    → ((m : ℕ) (z : A) (other : E) → slice_get xs m ≡ Some z → f z ≡ Err other → other ≡ fault) → each f xs ≡ Err fault
each_meets f fault [] n x here e only = absurd (cc)
each_meets f fault (y ∷ xs) zero x here e only =
    let is : y ≡ x = cc in
    then_err (f y) (λ z. each f xs >>= λ zs. Ok (z ∷ zs)) fault (ap f is ∙ e)
each_meets f fault (y ∷ xs) (suc n) x here e only =
    first_or_later f fault y xs (f y) refl (λ other is. only 0 y other refl is)
    (each_meets f fault xs n x here e (λ m z other at is. only (suc m) z other at is))

-- what is missing gives its fault, and what is there none
missing_is : {A E : Type 0} (fault given : E) (found : Option A) → some_or fault found ≡ Err given → (found ≡ None)
    × (given ≡ fault)
missing_is fault given None e = (refl, sym (same_fault fault given e))
missing_is fault given (Some x) e = absurd (no_fault x given e)

container_fault : (pod : PodSpec) (name : List ℕ) (kind : FaultKind) → container_number pod name ≡ Err kind
    → HasNo pod name × (kind ≡ StrangerContainer)
container_fault pod name kind e = missing_is StrangerContainer kind (place_of (names_of pod.containers) name) e

listing_fault : (pod : PodSpec) (listing : Listing) (kind : FaultKind) → placed_listing pod listing ≡ Err kind
    → HasNo pod listing.name × (kind ≡ StrangerContainer)
listing_fault pod listing kind e =
    let last : ℕ → Result PlacedListing FaultKind =
    λ number. Ok (record { container = number; instance = listing.instance }) in
    elim (bind_err (container_number pod listing.name) last kind e) [
      | inl here ↦ container_fault pod listing.name kind here
      | inr later ↦ absurd (no_fault (record { container = later.0; instance = listing.instance }) kind later.2)
    ]

result_fault : (pod : PodSpec) (r : ProbeResult) (kind : FaultKind) → placed_result pod r ≡ Err kind
    → HasNo pod r.container × (kind ≡ StrangerContainer)
result_fault pod r kind e =
    let last : ℕ → Result PlacedResult FaultKind =
    λ number. Ok (record { container = number; probe = r.probe; outcome = r.outcome }) in
    elim (bind_err (container_number pod r.container) last kind e) [
      | inl here ↦ container_fault pod r.container kind here
      | inr later ↦ absurd (no_fault (record { container = later.0; probe = r.probe; outcome = r.outcome }) kind
          later.2)
    ]

resize_fault : (pod : PodSpec) (resize : ContainerResize) (kind : FaultKind) → placed_resize pod resize ≡ Err kind
    → HasNo pod resize.container × (kind ≡ StrangerContainer)
resize_fault pod resize kind e =
    let last : ℕ → Result Resize FaultKind =
    λ number. Ok (record { container = number; resources = resize.resources }) in
    elim (bind_err (container_number pod resize.container) last kind e) [
      | inl here ↦ container_fault pod resize.container kind here
      | inr later ↦ absurd (no_fault (record { container = later.0; resources = resize.resources }) kind later.2)
    ]

-- a fault of an entry of a known pod: it names a container that isn't the pod's
known_fault : (heeds : Bool) (says : PodSpec → EntrySaid) (entry : TickEntry) (number : ℕ) (pod : PodSpec)
    (kind : FaultKind)
    → with_pod heeds says entry number pod ≡ Err kind → (kind ≡ StrangerContainer) × NamesOther heeds pod entry
known_fault heeds says entry number pod kind e =
    elim (bind_err (each (placed_listing pod) entry.listings) (with_listings heeds (says pod) entry number pod) kind
    e) [
      | inl faulty ↦
          let at = each_at (placed_listing pod) entry.listings kind faulty in
          let why = listing_fault pod at.1 kind at.3 in
          (why.1, inl (at.0, at.1, at.2, why.0))
      | inr listings ↦ elim (bind_err (each (placed_result pod) entry.results)
          (with_results heeds (says pod) entry number pod listings.0) kind listings.2) [
            | inl faulty ↦
                let at = each_at (placed_result pod) entry.results kind faulty in
                let why = result_fault pod at.1 kind at.3 in
                (why.1, inr (inl (at.0, at.1, at.2, why.0)))
            | inr results ↦ elim (bind_err (each (placed_resize pod) (resizes_by heeds entry.resized))
                (placed (says pod) number listings.0 results.0) kind results.2) [
                  | inl faulty ↦
                      let at = each_at (placed_resize pod) (resizes_by heeds entry.resized) kind faulty in
                      let why = resize_fault pod at.1 kind at.3 in
                      (why.1, inr (inr (at.0, at.1, at.2, why.0)))
                  | inr done ↦ absurd (no_fault (record {
                    pod = number;
                    listings = listings.0;
                    results = results.0;
                    resized = done.0;
                    said = says pod;
                  }) kind done.2)
                ]
          ]
    ]

-- and where it names one, that is its fault
known_is : (heeds : Bool) (says : PodSpec → EntrySaid) (entry : TickEntry) (number : ℕ) (pod : PodSpec)
    → NamesOther heeds pod entry
    → (r : Result (List PlacedListing) FaultKind) → each (placed_listing pod) entry.listings ≡ r
    → (s : Result (List PlacedResult) FaultKind) → each (placed_result pod) entry.results ≡ s
    → with_pod heeds says entry number pod ≡ Err StrangerContainer
known_is heeds says entry number pod (inl (m, listing, here, unknown)) r e s f =
    let last : ℕ → Result PlacedListing FaultKind =
    λ number. Ok (record { container = number; instance = listing.instance }) in
    let one : placed_listing pod listing ≡ Err StrangerContainer =
    then_err (container_number pod listing.name) last StrangerContainer
    (ap (λ (found : Option ℕ). some_or StrangerContainer found) unknown) in
    then_err (each (placed_listing pod) entry.listings) (with_listings heeds (says pod) entry number pod)
    StrangerContainer
    (each_meets (placed_listing pod) StrangerContainer entry.listings m listing here one
    (λ m z other at e. (listing_fault pod z other e).1))
known_is heeds says entry number pod (inr (inl (m, result, here, unknown))) (Ok listings) e s f =
    let last : ℕ → Result PlacedResult FaultKind =
    λ number. Ok (record { container = number; probe = result.probe; outcome = result.outcome }) in
    let one : placed_result pod result ≡ Err StrangerContainer =
    then_err (container_number pod result.container) last StrangerContainer
    (ap (λ (found : Option ℕ). some_or StrangerContainer found) unknown) in
    then_ok (each (placed_listing pod) entry.listings) (with_listings heeds (says pod) entry number pod) listings e
    ∙ then_err (each (placed_result pod) entry.results) (with_results heeds (says pod) entry number pod listings)
    StrangerContainer
    (each_meets (placed_result pod) StrangerContainer entry.results m result here one
    (λ m z other at e. (result_fault pod z other e).1))
known_is heeds says entry number pod (inr (inr (m, resize, here, unknown))) (Ok listings) e (Ok results) f =
    let last : ℕ → Result Resize FaultKind =
    λ number. Ok (record { container = number; resources = resize.resources }) in
    let one : placed_resize pod resize ≡ Err StrangerContainer =
    then_err (container_number pod resize.container) last StrangerContainer
    (ap (λ (found : Option ℕ). some_or StrangerContainer found) unknown) in
    then_ok (each (placed_listing pod) entry.listings) (with_listings heeds (says pod) entry number pod) listings e
    ∙ then_ok (each (placed_result pod) entry.results) (with_results heeds (says pod) entry number pod listings) results
    f
    ∙ then_err (each (placed_resize pod) (resizes_by heeds entry.resized)) (placed (says pod) number listings results)
    StrangerContainer
    (each_meets (placed_resize pod) StrangerContainer (resizes_by heeds entry.resized) m resize here one
    (λ m z other at e. (resize_fault pod z other e).1))
known_is heeds says entry number pod (inr (inr other)) (Ok listings) e (Err kind) f =
    let at = each_at (placed_result pod) entry.results kind f in
    then_ok (each (placed_listing pod) entry.listings) (with_listings heeds (says pod) entry number pod) listings e
    ∙ then_err (each (placed_result pod) entry.results) (with_results heeds (says pod) entry number pod listings)
    StrangerContainer (f ∙ ap Err (result_fault pod at.1 kind at.3).1)
known_is heeds says entry number pod (inr other) (Err kind) e s f =
    let at = each_at (placed_listing pod) entry.listings kind e in
    then_err (each (placed_listing pod) entry.listings) (with_listings heeds (says pod) entry number pod)
    StrangerContainer (e ∙ ap Err (listing_fault pod at.1 kind at.3).1)

-- a fault of one entry: its pod isn't known, or a container isn't its pod's
entry_fault : (heeds : Bool) (roll : Roll) (es : List TickEntry) (n : ℕ) (entry : TickEntry) (kind : FaultKind)
    → slice_get es n ≡ Some entry → placed_entry heeds roll entry ≡ Err kind
    → NamesStranger roll es ⊎ ((kind ≡ StrangerContainer) × NamesStrangerContainer heeds roll es)
unfolding placed_entry entry_of_pod
entry_fault heeds roll es n entry kind here e =
    let says : PodSpec → EntrySaid = λ pod. said_in heeds pod entry in
    elim (bind_err (number_in roll entry) (with_number heeds says roll.pods entry) kind e) [
      | inl unknown ↦ inl (record {
        n = n;
        entry = entry;
        here = here;
        unknown =
            (missing_is StrangerPod kind (number_of roll entry.key) unknown).0;
      })
      | inr number ↦
          let known = there_is StrangerPod (number_of roll entry.key) number.0 number.1 in
          let pod = named roll entry.key number.0 known in
          elim (bind_err (pod_numbered roll.pods number.0) (with_pod heeds says entry number.0) kind number.2) [
            | inl gone ↦
                let none = (missing_is StrangerPod kind (slice_get roll.pods number.0) gone).0 in
                let some = pod.at in
                absurd (cc)
            | inr found ↦
                let is = there_is StrangerPod (slice_get roll.pods number.0) found.0 found.1 in
                let why = known_fault heeds says entry number.0 found.0 kind found.2 in
                inr (
                  why.0,
                  record {
                    n = n;
                    entry = entry;
                    number = number.0;
                    pod = found.0;
                    here = here;
                    known =
                        known;
                    pod_is = is;
                    other = why.1;
                  },
                )
          ]
    ]

unknown_pod : (roll : Roll) (es : List TickEntry) → NamesStranger roll es
    → each (number_in roll) es ≡ Err StrangerPod
unknown_pod roll es is =
    each_meets (number_in roll) StrangerPod es is.n is.entry is.here
    (ap (λ (found : Option ℕ). some_or StrangerPod found) is.unknown)
    (λ m z other at e. (missing_is StrangerPod other (number_of roll z.key) e).1)

-- where every number is found, no entry names a stranger
all_known : (roll : Roll) (es : List TickEntry) (numbers : List ℕ)
    → each (number_in roll) es ≡ Ok numbers → NamesStranger roll es → ⊥
all_known roll es numbers e is = no_fault numbers StrangerPod (sym e ∙ unknown_pod roll es is)

entries_fault : (heeds : Bool) (roll : Roll) (es : List TickEntry) (kind : FaultKind)
    → placed_of heeds roll es ≡ Err kind
    → ((kind ≡ StrangerPod) × NamesStranger roll es)
    ⊎ ((kind ≡ StrangerContainer) × NamesStrangerContainer heeds roll es)
unfolding placed_of
entries_fault heeds roll es kind e =
    elim (bind_err (each (number_in roll) es) (λ numbers. each (placed_entry heeds roll) es) kind
    e) [
      | inl unknown ↦
          let at = each_at (number_in roll) es kind unknown in
          let why = missing_is StrangerPod kind (number_of roll at.1.key) at.3 in
          inl (why.1, record { n = at.0; entry = at.1; here = at.2; unknown = why.0 })
      | inr numbers ↦
          let at = each_at (placed_entry heeds roll) es kind numbers.2 in
          elim (entry_fault heeds roll es at.0 at.1 kind at.2 at.3) [
            | inl stranger ↦ absurd (all_known roll es numbers.0 numbers.1 stranger)
            | inr container ↦ inr container
          ]
    ]

pod_is : (heeds : Bool) (roll : Roll) (es : List TickEntry) → NamesStranger roll es
    → placed_of heeds roll es ≡ Err StrangerPod
unfolding placed_of
pod_is heeds roll es is = then_err (each (number_in roll) es)
    (λ numbers. each (placed_entry heeds roll) es) StrangerPod (unknown_pod roll es is)

one_entry : (heeds : Bool) (roll : Roll) (es : List TickEntry) → (is : NamesStrangerContainer heeds roll es)
    → placed_entry heeds roll is.entry ≡ Err StrangerContainer
unfolding placed_entry entry_of_pod
one_entry heeds roll es is =
    let says : PodSpec → EntrySaid = λ pod. said_in heeds pod is.entry in
    then_ok (number_in roll is.entry) (with_number heeds says roll.pods is.entry) is.number
    (ap (λ (found : Option ℕ). some_or StrangerPod found) is.known)
    ∙ then_ok (pod_numbered roll.pods is.number) (with_pod heeds says is.entry is.number) is.pod
    (ap (λ (found : Option PodSpec). some_or StrangerPod found) is.pod_is)
    ∙ known_is heeds says is.entry is.number is.pod is.other (each (placed_listing is.pod) is.entry.listings) refl
    (each (placed_result is.pod) is.entry.results) refl

only_container : (heeds : Bool) (roll : Roll) (es : List TickEntry) → (NamesStranger roll es → ⊥)
    → (m : ℕ) (z : TickEntry) (other : FaultKind) → slice_get es m ≡ Some z
    → placed_entry heeds roll z ≡ Err other → other ≡ StrangerContainer
only_container heeds roll es none m z other at faulty = elim (entry_fault heeds roll es m z other at faulty) [
  | inl stranger ↦ absurd (none stranger)
  | inr container ↦ container.0
]

container_is : (heeds : Bool) (roll : Roll) (es : List TickEntry) → (NamesStranger roll es → ⊥)
    → NamesStrangerContainer heeds roll es → (r : Result (List ℕ) FaultKind) → each (number_in roll) es ≡ r
    → placed_of heeds roll es ≡ Err StrangerContainer
unfolding placed_of
container_is heeds roll es none is (Ok numbers) e =
    then_ok (each (number_in roll) es) (λ numbers. each (placed_entry heeds roll) es) numbers e
    ∙ each_meets (placed_entry heeds roll) StrangerContainer es is.n is.entry is.here (one_entry heeds roll es is)
    (λ m z other at faulty. only_container heeds roll es none m z other at faulty)
container_is heeds roll es none is (Err kind) e =
    let at = each_at (number_in roll) es kind e in
    absurd (none (record {
      n = at.0;
      entry = at.1;
      here = at.2;
      unknown =
          (missing_is StrangerPod kind (number_of roll at.1.key) at.3).0;
    }))

pod_of : (heeds : Bool) (roll : Roll) (es : List TickEntry) → placed_of heeds roll es ≡ Err StrangerPod
    → NamesStranger roll es
pod_of heeds roll es e = elim (entries_fault heeds roll es StrangerPod e) [
  | inl pod ↦ pod.1
  | inr container ↦ let other : StrangerPod ≡ StrangerContainer = container.0 in absurd (cc)
]

apart : ◌≡◌ {A = Result (List PlacedEntry) FaultKind} (Err StrangerPod) (Err StrangerContainer) → ⊥
apart e = let same = same_fault {A = List PlacedEntry} StrangerPod StrangerContainer e in absurd (cc)

container_of : (heeds : Bool) (roll : Roll) (es : List TickEntry) → placed_of heeds roll es ≡ Err StrangerContainer
    → (NamesStranger roll es → ⊥) × NamesStrangerContainer heeds roll es
container_of heeds roll es e = elim (entries_fault heeds roll es StrangerContainer e) [
  | inl pod ↦ let other : StrangerContainer ≡ StrangerPod = pod.0 in absurd (cc)
  | inr container ↦ (λ is. apart (sym (pod_is heeds roll es is) ∙ e), container.1)
]

pub strangers : Strangers
strangers = record {
  pod = λ heeds roll es. (pod_of heeds roll es, pod_is heeds roll es);
  named = named;
  unnamed = unnamed;
  container = λ heeds roll es. (
    container_of heeds roll es,
    λ is. container_is heeds roll es is.0 is.1
        (each (number_in roll) es) refl,
  );
}
