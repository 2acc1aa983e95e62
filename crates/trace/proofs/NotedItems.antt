-- What a loop over the items of an entry has noted of the pod's containers.
use Rattle.std.proofs.Common.{◌≡◌, ◌∙◌, ℕ, zero, suc, ◌+◌, ◌-◌, ◌<◌, Bool, false, List, [], ◌∷◌, ◌++◌, length}
use Rattle.std.proofs.Common.{replicate, take}
use Rattle.std.proofs.Common.{Result, Ok, Err, OnOk, is_ok, cond, refl, ap, sym, subst, arith}
use Rattle.std.proofs.lemmas.List.{append_assoc, append-nil}
use Rattle.json_fields.specs.rule.Reading.{◌>>=◌, each}
use Rattle.json_fields.proofs.Only.{same_value}
use Rattle.json_fields.proofs.Steps.{bind_ok, there_is}
use Rattle.manifest.specs.rule.Containers.{names_of}
use Rattle.manifest.specs.declared.pod.ContainerSpec.{ContainerSpec}
use Rattle.manifest.specs.declared.pod.PodSpec.{PodSpec}
use Rattle.lists.specs.rule.Names.{place_of}
use Rattle.observations.specs.declared.container.ContainerObs.{ContainerObs}
use Rattle.serde_json.specs.Data.{Data}
use Rattle.tick_lines.specs.rule.Listings.{listing_of}
use Rattle.tick_lines.specs.rule.Results.{result_of}
use Rattle.line_faults.specs.declared.fault.FaultKind.{FaultKind}
use Rattle.line_faults.specs.declared.fault.FaultKind.TheVariants.{StrangerContainer}
use Rattle.trace.specs.declared.placing.PlacedListing.{PlacedListing}
use Rattle.trace.specs.declared.placing.PlacedResult.{PlacedResult}
use Rattle.trace.specs.state.Noted.{NotesListing, NotesResult, ListingsNoted, ResultsNoted, AreUnknown, unknown}
use Rattle.trace.specs.rule.Observed.{containers_from, lacks_code}
use Rattle.trace.specs.rule.Placing.{container_number, placed_listing, placed_result}
use Rattle.trace.specs.state.Tape.{of_item, listing_read, result_read}
use Rattle.trace.proofs.NamedContainers.{place_within}
use Rattle.trace.proofs.NotedContainers.{listed_once, result_once, coded_more}

-- ---- the numbers of containers

number_within : (pod : PodSpec) (name : List ℕ) (k : ℕ) → container_number pod name ≡ Ok k → k < length pod.containers
number_within pod name k e = place_within pod.containers name k
    (there_is StrangerContainer (place_of (names_of pod.containers) name) k e)

-- the container of a listing that was read is one of the pod's
pub listing_within : (pod : PodSpec) (d : Data) (l : PlacedListing) → listing_read pod d ≡ Ok l
    → l.container < length pod.containers
listing_within pod d l e =
    let read = bind_ok (of_item (listing_of d)) (placed_listing pod) l e in
    let number = bind_ok (container_number pod read.0.name)
    (λ k. Ok (record { container = k; instance = read.0.instance })) l read.2 in
    let is = same_value {E = FaultKind} (record { container = number.0; instance = read.0.instance }) l number.2 in
    subst (λ (m : PlacedListing). m.container < length pod.containers) is
    (number_within pod read.0.name number.0 number.1)

pub result_within : (pod : PodSpec) (d : Data) (r : PlacedResult) → result_read pod d ≡ Ok r
    → r.container < length pod.containers
result_within pod d r e =
    let read = bind_ok (of_item (result_of d)) (placed_result pod) r e in
    let number = bind_ok (container_number pod read.0.container)
    (λ k. Ok (record { container = k; probe = read.0.probe; outcome = read.0.outcome })) r read.2 in
    let is = same_value {E = FaultKind}
    (record { container = number.0; probe = read.0.probe; outcome = read.0.outcome }) r number.2 in
    subst (λ (s : PlacedResult). s.container < length pod.containers) is
    (number_within pod read.0.container number.0 number.1)

pub as_many_shown : (ls : List PlacedListing) (rs : List PlacedResult) (n : ℕ) (cs : List ContainerSpec)
    → length (containers_from ls rs n cs) ≡ length cs
as_many_shown ls rs n [] = refl
as_many_shown ls rs n (c ∷ cs) = ap suc (as_many_shown ls rs (n + 1) cs)

-- ---- nothing is known yet

-- of as many containers nothing is known
pub all_unknown : (n : ℕ) (cs : List ContainerSpec) → replicate (length cs) unknown ≡ containers_from [] [] n cs
all_unknown n [] = refl
all_unknown n (c ∷ cs) = ap (λ (os : List ContainerObs). unknown ∷ os) (all_unknown (n + 1) cs)

-- and so they are unknown
pub are_unknown : (os : List ContainerObs) (cs : List ContainerSpec) → os ≡ containers_from [] [] 0 cs → AreUnknown os
are_unknown os cs is =
    is ∙ sym (all_unknown 0 cs) ∙ ap (λ (k : ℕ). replicate k unknown)
    (sym (as_many_shown [] [] 0 cs) ∙ ap (λ (xs : List ContainerObs). length xs) (sym is))

-- a list of such, cut or filled up
resized : (n k : ℕ) → take n (replicate k unknown) ++ replicate (n - k) unknown ≡ replicate n unknown
resized zero zero = refl
resized zero (suc k) = let none : 0 - suc k ≡ 0 = omega arith in ap (λ (m : ℕ). replicate m unknown) none
resized (suc n) zero = let all : suc n - 0 ≡ suc n = omega arith in ap (λ (m : ℕ). replicate m unknown) all
resized (suc n) (suc k) =
    let same : suc n - suc k ≡ n - k = omega arith in
    ap (λ (os : List ContainerObs). unknown ∷ os)
    (ap (λ (m : ℕ). take n (replicate k unknown) ++ replicate m unknown) same ∙ resized n k)

-- once such a list is cut or filled up
pub unknown_resized : {V E : Type 0} (r : Result V E) (os new : List ContainerObs) (cs : List ContainerSpec) (many : ℕ)
    → AreUnknown os → length os ≡ many
    → new ≡ cond (is_ok r) (take (length cs) os ++ replicate (length cs - many) unknown) os
    → OnOk r (new ≡ containers_from [] [] 0 cs)
unknown_resized (Ok v) os new cs many are long is =
    is ∙ ap (λ (k : ℕ). take (length cs) os ++ replicate (length cs - k) unknown) (sym long)
    ∙ ap (λ (xs : List ContainerObs). take (length cs) xs ++ replicate (length cs - length os) unknown) are
    ∙ resized (length cs) (length os) ∙ all_unknown 0 cs
unknown_resized (Err e) os new cs many are long is = tt

-- ---- one item more

pub each_more : {A B E : Type 0} (f : A → Result B E) (xs : List A) (x : A) (ys : List B) (y : B) → each f xs ≡ Ok ys
    → f x ≡ Ok y → each f (xs ++ x ∷ []) ≡ Ok (ys ++ y ∷ [])
each_more {E = E} f [] x ys y e is =
    rw is (ap (λ (zs : List _). Ok (zs ++ y ∷ [])) (same_value {E = E} [] ys e))
each_more {E = E} f (z ∷ zs) x ys y e is =
    let one = bind_ok (f z) (λ a. each f zs >>= λ zs. Ok (a ∷ zs)) ys e in
    let rest = bind_ok (each f zs) (λ zs. Ok (one.0 ∷ zs)) ys one.2 in
    rw (one.1, each_more f zs x rest.0 y rest.1 is)
    (ap (λ (zs : List _). Ok (zs ++ y ∷ [])) (same_value {E = E} (one.0 ∷ rest.0) ys rest.2))

-- ---- listings

-- some of the items are noted as listings, and these are left
pub record ListingsSoFar (pod : PodSpec) (whole left : List Data) (shown : List ContainerObs) : Type 0 where
  pub before : List Data
  pub parts : before ++ left ≡ whole
  pub noted : ListingsNoted pod before shown

pub listings_begin : (pod : PodSpec) (whole : List Data) (all : List ContainerObs)
    → all ≡ containers_from [] [] 0 pod.containers → ListingsSoFar pod whole whole all
listings_begin pod whole all is = record {
  before = [];
  parts = refl;
  noted = record { listings = []; read = refl; once = refl; coded = refl; noted = is };
}

pub listing_has_place : (pod : PodSpec) (whole left : List Data) (all : List ContainerObs) (d : Data)
    (l : PlacedListing) → ListingsSoFar pod whole left all → listing_read pod d ≡ Ok l → l.container < length all
listing_has_place pod whole left all d l far read =
    let count = ap (λ (os : List ContainerObs). length os) far.noted.noted
    ∙ as_many_shown far.noted.listings [] 0 pod.containers in
    let lt = listing_within pod d l read in
    omega arith

next_part : (before left whole : List Data) (d : Data) (rest : List Data) → before ++ left ≡ whole → left ≡ d ∷ rest
    → (before ++ d ∷ []) ++ rest ≡ whole
next_part before left whole d rest parts is =
    append_assoc before (d ∷ []) rest ∙ ap (λ (ds : List Data). before ++ ds) (sym is) ∙ parts

pub listings_more : (pod : PodSpec) (whole left : List Data) (old new : List ContainerObs) (d : Data) (rest : List Data)
    (l : PlacedListing) (has_one : Bool) → ListingsSoFar pod whole left old → left ≡ d ∷ rest
    → listing_read pod d ≡ Ok l → lacks_code l.instance ≡ false → NotesListing l old new has_one → has_one ≡ false
    → ListingsSoFar pod whole rest new
listings_more pod whole left old new d rest l has_one far is read coded notes first =
    let ls = far.noted.listings in
    let other = sym (notes.earlier ls [] pod.containers far.noted.noted) ∙ first in
    let next : ListingsNoted pod (far.before ++ d ∷ []) new = record {
      listings = ls ++ l ∷ [];
      read = each_more (listing_read pod) far.before d ls l far.noted.read read;
      once = listed_once ls l far.noted.once other;
      coded = coded_more ls l far.noted.coded coded;
      noted = notes.noted ls [] pod.containers far.noted.noted first;
    } in
    record { before = far.before ++ d ∷ []; parts = next_part far.before left whole d rest far.parts is; noted = next }

all_parts : (before left whole : List Data) → before ++ left ≡ whole → left ≡ [] → before ≡ whole
all_parts before left whole parts none =
    sym (append-nil before) ∙ ap (λ (ds : List Data). before ++ ds) (sym none) ∙ parts

pub listings_end : (pod : PodSpec) (whole left : List Data) (all : List ContainerObs)
    → ListingsSoFar pod whole left all → left ≡ [] → ListingsNoted pod whole all
listings_end pod whole left all far none =
    subst (λ (ds : List Data). ListingsNoted pod ds all) (all_parts far.before left whole far.parts none) far.noted

-- ---- results

-- some of the items are noted as results, beside the listings, and these are left
pub record ResultsSoFar (pod : PodSpec) (ls : List PlacedListing) (whole left : List Data) (shown : List ContainerObs)
    : Type 0 where
  pub before : List Data
  pub parts : before ++ left ≡ whole
  pub noted : ResultsNoted pod ls before shown

pub results_begin : (pod : PodSpec) (ls : List PlacedListing) (whole : List Data) (all : List ContainerObs)
    → all ≡ containers_from ls [] 0 pod.containers → ResultsSoFar pod ls whole whole all
results_begin pod ls whole all is = record {
  before = [];
  parts = refl;
  noted = record { results = []; read = refl; once = refl; noted = is };
}

pub results_more : (pod : PodSpec) (ls : List PlacedListing) (whole left : List Data) (old new : List ContainerObs)
    (d : Data) (rest : List Data) (w : PlacedResult) (has_one : Bool) → ResultsSoFar pod ls whole left old
    → left ≡ d ∷ rest → result_read pod d ≡ Ok w → NotesResult w old new has_one → has_one ≡ false
    → ResultsSoFar pod ls whole rest new
results_more pod ls whole left old new d rest w has_one far is read notes first =
    let rs = far.noted.results in
    let other = sym (notes.earlier ls rs pod.containers far.noted.noted) ∙ first in
    let next : ResultsNoted pod ls (far.before ++ d ∷ []) new = record {
      results = rs ++ w ∷ [];
      read = each_more (result_read pod) far.before d rs w far.noted.read read;
      once = result_once rs w far.noted.once other;
      noted = notes.noted ls rs pod.containers far.noted.noted first;
    } in
    record { before = far.before ++ d ∷ []; parts = next_part far.before left whole d rest far.parts is; noted = next }

pub results_end : (pod : PodSpec) (ls : List PlacedListing) (whole left : List Data) (all : List ContainerObs)
    → ResultsSoFar pod ls whole left all → left ≡ [] → ResultsNoted pod ls whole all
results_end pod ls whole left all far none =
    subst (λ (ds : List Data). ResultsNoted pod ls ds all) (all_parts far.before left whole far.parts none) far.noted
