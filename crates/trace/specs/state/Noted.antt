-- What an entry shows of its pod's containers, noted as its listings and results come.
use Rattle.std.specs.Prelude.{◌≡◌, ℕ, ◌==◌, Bool, false, List, [], ◌∷◌, ◌++◌, length, replicate, Ok, None}
use Rattle.std.specs.List.{list_any}
use Rattle.json_fields.specs.rule.Reading.{each}
use Rattle.manifest.specs.declared.pod.ContainerSpec.{ContainerSpec}
use Rattle.manifest.specs.declared.pod.PodSpec.{PodSpec}
use Rattle.observations.specs.declared.container.ContainerObs.{ContainerObs}
use Rattle.serde_json.specs.Data.{Data}
use Rattle.trace.specs.declared.placing.PlacedListing.{PlacedListing}
use Rattle.trace.specs.declared.placing.PlacedResult.{PlacedResult}
use Rattle.trace.specs.rule.Observed.{containers_from, lacks_code}
use Rattle.trace.specs.rule.Placing.{has_twice, are_of_one_container, are_of_one_probe}
use Rattle.trace.specs.state.Tape.{listing_read, result_read}

-- a container of which nothing is known
abbrev pub unknown : ContainerObs
unknown = record { seen = None; results = None ∷ None ∷ None ∷ [] }

-- each of them is one of which nothing is known
abbrev pub AreUnknown : List ContainerObs → Type 0
AreUnknown containers = containers ≡ replicate (length containers) unknown

-- some of the listings is of the container with the number
abbrev pub is_listed : List PlacedListing → ℕ → Bool
is_listed ls n = list_any (λ l. l.container == n) ls

-- some of the results is of the same probe
abbrev pub has_result : List PlacedResult → PlacedResult → Bool
has_result rs written = list_any (λ r. are_of_one_probe r written) rs

-- A listing after earlier ones, where the containers show these: whether its container is listed already, and if it is
-- not, the containers then show it too.
pub record NotesListing (listing : PlacedListing) (old new : List ContainerObs) (has_one : Bool) : Type 0 where
  pub earlier : (ls : List PlacedListing) (rs : List PlacedResult) (cs : List ContainerSpec)
      → old ≡ containers_from ls rs 0 cs → has_one ≡ is_listed ls listing.container
  pub noted : (ls : List PlacedListing) (rs : List PlacedResult) (cs : List ContainerSpec)
      → old ≡ containers_from ls rs 0 cs → has_one ≡ false → new ≡ containers_from (ls ++ listing ∷ []) rs 0 cs

-- A probe's result after earlier ones, where the containers show these: whether its probe has one already, and if it
-- has none, the containers then show it too.
pub record NotesResult (written : PlacedResult) (old new : List ContainerObs) (has_one : Bool) : Type 0 where
  pub earlier : (ls : List PlacedListing) (rs : List PlacedResult) (cs : List ContainerSpec)
      → old ≡ containers_from ls rs 0 cs → has_one ≡ has_result rs written
  pub noted : (ls : List PlacedListing) (rs : List PlacedResult) (cs : List ContainerSpec)
      → old ≡ containers_from ls rs 0 cs → has_one ≡ false → new ≡ containers_from ls (rs ++ written ∷ []) 0 cs

-- These items were read as listings, each of another container and none at fault, and the containers show them.
pub record ListingsNoted (pod : PodSpec) (ds : List Data) (shown : List ContainerObs) : Type 0 where
  pub listings : List PlacedListing
  pub read : each (listing_read pod) ds ≡ Ok listings
  pub once : has_twice are_of_one_container listings ≡ false
  pub coded : list_any (λ l. lacks_code l.instance) listings ≡ false
  pub noted : shown ≡ containers_from listings [] 0 pod.containers

-- These items were read as results, each of another probe, and the containers show them together with the listings.
pub record ResultsNoted (pod : PodSpec) (ls : List PlacedListing) (ds : List Data) (shown : List ContainerObs)
    : Type 0 where
  pub results : List PlacedResult
  pub read : each (result_read pod) ds ≡ Ok results
  pub once : has_twice are_of_one_probe results ≡ false
  pub noted : shown ≡ containers_from ls results 0 pod.containers
