-- Entries whose pods' numbers are known.
use Rattle.std.proofs.Common.{◌≡◌, ◌∙◌, ℕ, suc, ◌<◌, Bool, List, [], ◌∷◌, ◌++◌, length, Result, Ok, Err}
use Rattle.std.proofs.Common.{append_assoc}
use Rattle.std.proofs.Common.{refl, ap, sym, subst}
use Rattle.std.specs.Prelude.{All, IfOk, slice_get}
use Rattle.std.proofs.lemmas.List.Elements.{All-nil, All-cons}
use Rattle.std.proofs.lemmas.Option.{slice_get_within}
use Rattle.json_fields.specs.rule.Reading.{◌>>=◌, each}
use Rattle.json_fields.proofs.Each.{with_front}
use Rattle.json_fields.proofs.Steps.{bind_ok, then_ok, there_is}
use Rattle.json_fields.proofs.Only.{same_value}
use Rattle.manifest.specs.declared.pod.PodSpec.{PodSpec}
use Rattle.tick_lines.specs.declared.entry.TickEntry.{TickEntry}
use Rattle.line_faults.specs.declared.fault.FaultKind.{FaultKind}
use Rattle.observations.specs.declared.resize.Resize.{Resize}
use Rattle.trace.specs.declared.placing.PlacedListing.{PlacedListing}
use Rattle.trace.specs.declared.placing.PlacedResult.{PlacedResult}
use Rattle.trace.specs.declared.placing.EntrySaid.{EntrySaid}
use Rattle.trace.specs.declared.placing.PlacedEntry.{PlacedEntry}
use Rattle.json_fields.specs.state.Reading.{GivesUnless}
use Rattle.trace.specs.state.Memory.{is_memory}
use Rattle.roster.specs.rule.Roll.{Roll}
use Rattle.trace.specs.rule.Placing.{number_in, pod_numbered, placed_listing, placed_result, placed_resize, resizes_by}
use Rattle.trace.specs.rule.Placing.{said_in, entry_of_pod, placed_entry, placed_of}
use Rattle.trace.specs.state.Placing.{entries_of_pods}

-- the steps of an entry
abbrev pub placed : EntrySaid → ℕ → List PlacedListing → List PlacedResult → List Resize
    → Result PlacedEntry FaultKind
placed said number listings results resized = Ok (record {
  pod = number;
  listings = listings;
  results = results;
  resized = resized;
  said = said;
})

abbrev pub with_results : Bool → EntrySaid → TickEntry → ℕ → PodSpec → List PlacedListing → List PlacedResult
    → Result PlacedEntry FaultKind
with_results heeds said entry number pod listings results =
    each (placed_resize pod) (resizes_by heeds entry.resized) >>= placed said number listings results

abbrev pub with_listings : Bool → EntrySaid → TickEntry → ℕ → PodSpec → List PlacedListing
    → Result PlacedEntry FaultKind
with_listings heeds said entry number pod listings =
    each (placed_result pod) entry.results >>= with_results heeds said entry number pod listings

abbrev pub with_pod : Bool → (PodSpec → EntrySaid) → TickEntry → ℕ → PodSpec → Result PlacedEntry FaultKind
with_pod heeds said entry number pod =
    each (placed_listing pod) entry.listings >>= with_listings heeds (said pod) entry number pod

abbrev pub with_number : Bool → (PodSpec → EntrySaid) → List PodSpec → TickEntry → ℕ → Result PlacedEntry FaultKind
with_number heeds said pods entry number = pod_numbered pods number >>= with_pod heeds said entry number

-- what stands before the rest of a list, once its first step is known to go well
then_all : {A B E : Type 0} (r : Result A E) (f : A → Result B E) (x : A) (rest : Result (List B) E) → r ≡ Ok x
    → ((r >>= f) >>= λ y. rest >>= λ ys. Ok (y ∷ ys)) ≡ (f x >>= λ y. rest >>= λ ys. Ok (y ∷ ys))
then_all r f x rest e = rw e refl

entry_by_number : (heeds : Bool) (roll : Roll) (x : TickEntry) (n : ℕ) (rest : Result (List PlacedEntry) FaultKind)
    → number_in roll x ≡ Ok n
    → (placed_entry heeds roll x >>= λ y. rest >>= λ ys. Ok (y ∷ ys))
    ≡ (entry_of_pod heeds roll.pods n x >>= λ y. rest >>= λ ys. Ok (y ∷ ys))
unfolding placed_entry
entry_by_number heeds roll x n rest e =
    then_all (number_in roll x) (λ number. entry_of_pod heeds roll.pods number x) n rest e

-- once the numbers of all pods are known, each entry is placed by its own
pub by_numbers : (heeds : Bool) (roll : Roll) (es : List TickEntry) (ns : List ℕ)
    → each (number_in roll) es ≡ Ok ns → each (placed_entry heeds roll) es ≡ entries_of_pods heeds roll.pods ns es
by_numbers heeds roll [] ns e =
    subst (λ (ks : List ℕ). each (placed_entry heeds roll) [] ≡ entries_of_pods heeds roll.pods ks [])
    (same_value {E = FaultKind} [] ns e) refl
by_numbers heeds roll (x ∷ xs) ns e =
    let one = bind_ok (number_in roll x) (λ n. each (number_in roll) xs >>= λ ms. Ok (n ∷ ms)) ns e in
    let rest = bind_ok (each (number_in roll) xs) (λ ms. Ok (one.0 ∷ ms)) ns one.2 in
    let add : Result (List PlacedEntry) FaultKind → Result (List PlacedEntry) FaultKind =
    λ read. entry_of_pod heeds roll.pods one.0 x >>= λ y. read >>= λ ys. Ok (y ∷ ys) in
    subst (λ (ks : List ℕ). each (placed_entry heeds roll) (x ∷ xs) ≡ entries_of_pods heeds roll.pods ks (x ∷ xs))
    (same_value {E = FaultKind} (one.0 ∷ rest.0) ns rest.2)
    (entry_by_number heeds roll x one.0 (each (placed_entry heeds roll) xs) one.1
    ∙ ap add (by_numbers heeds roll xs rest.0 rest.1))

-- one more at the end of those that were placed, where others are still to be placed
pub in_front : {A E : Type 0} (all : List A) (one : A) (rest : Result (List A) E)
    → with_front (all ++ one ∷ []) rest ≡ with_front all (rest >>= λ xs. Ok (one ∷ xs))
in_front all one (Err fault) = refl
in_front all one (Ok xs) = ap Ok (append_assoc all (one ∷ []) xs)

-- this many entries, this many numbers
pub as_many : {A B E : Type 0} (f : A → Result B E) (xs : List A) (ys : List B) → each f xs ≡ Ok ys
    → length ys ≡ length xs
as_many {B = B} {E = E} f [] ys e = ap (λ (zs : List B). length zs) (sym (same_value {E = E} [] ys e))
as_many {B = B} {E = E} f (x ∷ xs) ys e =
    let one = bind_ok (f x) (λ z. each f xs >>= λ zs. Ok (z ∷ zs)) ys e in
    let rest = bind_ok (each f xs) (λ zs. Ok (one.0 ∷ zs)) ys one.2 in
    ap (λ (zs : List B). length zs) (sym (same_value {E = E} (one.0 ∷ rest.0) ys rest.2))
    ∙ ap suc (as_many f xs rest.0 rest.1)

-- the pod of an entry that could be placed is there, and the entry says what was written of it
pub entry_says : (heeds : Bool) (pods : List PodSpec) (n : ℕ) (entry : TickEntry) (e : PlacedEntry)
    → entry_of_pod heeds pods n entry ≡ Ok e
    → (n < length pods) × (n ≡ e.pod) × (pod : PodSpec) × (said_in heeds pod entry ≡ e.said)
unfolding entry_of_pod
entry_says heeds pods n entry e is =
    let pod = bind_ok (pod_numbered pods n) (with_pod heeds (λ pod. said_in heeds pod entry) entry n) e is in
    let says = said_in heeds pod.0 entry in
    let listings = bind_ok (each (placed_listing pod.0) entry.listings) (with_listings heeds says entry n pod.0) e
    pod.2 in
    let results = bind_ok (each (placed_result pod.0) entry.results) (with_results heeds says entry n pod.0 listings.0)
    e listings.2 in
    let resized = bind_ok (each (placed_resize pod.0) (resizes_by heeds entry.resized))
    (placed says n listings.0 results.0) e results.2 in
    let same = same_value {E = FaultKind} (record {
      pod = n;
      listings = listings.0;
      results = results.0;
      resized = resized.0;
      said = says;
    }) e resized.2 in (
      slice_get_within pods n pod.0 (there_is _ (slice_get pods n) pod.0 pod.1),
      ap (λ (p : PlacedEntry). p.pod) same,
      pod.0,
      ap (λ (p : PlacedEntry). p.said) same,
    )

entry_known : (heeds : Bool) (pods : List PodSpec) (n : ℕ) (entry : TickEntry) (e : PlacedEntry)
    → entry_of_pod heeds pods n entry ≡ Ok e → e.pod < length pods
entry_known heeds pods n entry e is =
    let says = entry_says heeds pods n entry e is in
    subst (λ (k : ℕ). k < length pods) says.1 says.0

pub all_known : (heeds : Bool) (pods : List PodSpec) (ns : List ℕ) (es : List TickEntry) (placed : List PlacedEntry)
    → entries_of_pods heeds pods ns es ≡ Ok placed → All (λ e. e.pod < length pods) placed
all_known heeds pods [] es placed is =
    subst (All (λ (e : PlacedEntry). e.pod < length pods)) (same_value {E = FaultKind} [] placed is) (All-nil _)
all_known heeds pods (n ∷ ns) [] placed is =
    subst (All (λ (e : PlacedEntry). e.pod < length pods)) (same_value {E = FaultKind} [] placed is) (All-nil _)
all_known heeds pods (n ∷ ns) (x ∷ xs) placed is =
    let one = bind_ok (entry_of_pod heeds pods n x) (λ y. entries_of_pods heeds pods ns xs >>= λ ys. Ok (y ∷ ys)) placed
    is in
    let rest = bind_ok (entries_of_pods heeds pods ns xs) (λ ys. Ok (one.0 ∷ ys)) placed one.2 in
    subst (All (λ (e : PlacedEntry). e.pod < length pods)) (same_value {E = FaultKind} (one.0 ∷ rest.0) placed rest.2)
    (All-cons (λ (e : PlacedEntry). e.pod < length pods) one.0 rest.0 (entry_known heeds pods n x one.0 one.1)
    (all_known heeds pods ns xs rest.0 rest.1))

-- entries placed by the numbers of their pods are the entries placed by their names
pub by_names : {X : Type 0} (heeds : Bool) (view : X → List PlacedEntry) (r : Result X FaultKind) (roll past : Roll)
    (pods : List PodSpec) (ns numbers : List ℕ) (es entries : List TickEntry) → pods ≡ past.pods → roll ≡ past
    → ns ≡ numbers → es ≡ entries → each (number_in roll) es ≡ Ok numbers
    → GivesUnless is_memory view r (entries_of_pods heeds pods ns es)
    → GivesUnless is_memory view r (placed_of heeds past entries)
unfolding placed_of
by_names heeds view r roll past pods ns numbers es entries pods_are is ns_are es_are e gives =
    let known : each (number_in past) es ≡ Ok numbers = ap (λ (l : Roll). each (number_in l) es) (sym is) ∙ e in
    let names : List TickEntry → Result (List PlacedEntry) FaultKind =
    λ xs. each (number_in past) xs >>= λ _. each (placed_entry heeds past) xs in
    let whole : names es ≡ each (placed_entry heeds past) es =
    then_ok (each (number_in past) es) (λ _. each (placed_entry heeds past) es) numbers known in
    subst (GivesUnless is_memory view r) (ap (λ (ps : List PodSpec). entries_of_pods heeds ps ns es) pods_are
    ∙ ap (λ (ms : List ℕ). entries_of_pods heeds past.pods ms es) ns_are
    ∙ sym (whole ∙ by_numbers heeds past es numbers known) ∙ ap names es_are) gives

pub known_pods : {X : Type 0} (heeds : Bool) (view : X → List PlacedEntry) (r : Result X FaultKind)
    (pods past : List PodSpec) (ns : List ℕ) (es : List TickEntry) → pods ≡ past
    → GivesUnless is_memory view r (entries_of_pods heeds pods ns es)
    → IfOk r (λ v. All (λ (e : PlacedEntry). e.pod < length past) (view v))
known_pods heeds view (Ok x) pods past ns es same gives =
    subst (λ (ps : List PodSpec). All (λ (e : PlacedEntry). e.pod < length ps) (view x)) same
    (all_known heeds pods ns es (view x) gives)
known_pods heeds view (Err kind) pods past ns es same gives = tt
