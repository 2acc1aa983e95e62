-- The entries of a tick line, with numbers in the place of names.
use Rattle.std.specs.Prelude.{ℕ, ◌==◌, ◌&&◌, ◌||◌, Bool, true, false, List, [], ◌∷◌, slice_get, Option, Some, None}
use Rattle.std.specs.Prelude.{if◌then◌else◌, map, option_and_then, Result, Ok}
use Rattle.std.specs.List.{list_any, range_with_len}
use Rattle.lists.specs.rule.Names.{place_of}
use Rattle.json_fields.specs.rule.Reading.{◌>>=◌, some_or, each}
use Rattle.manifest.specs.declared.pod.PodSpec.{PodSpec}
use Rattle.manifest.specs.rule.Containers.{names_of}
use Rattle.observations.specs.declared.usage.Sampling.{Sampling}
use Rattle.observations.specs.declared.usage.Sampling.TheVariants.{Unsaid, Unsampled, Sampled}
use Rattle.observations.specs.declared.usage.Usage.{Usage}
use Rattle.observations.specs.declared.words.PodWords.{PodWords}
use Rattle.observations.specs.declared.resize.Resize.{Resize}
use Rattle.line_faults.specs.declared.fault.FaultKind.{FaultKind}
use Rattle.line_faults.specs.declared.fault.FaultKind.TheVariants.{StrangerPod, StrangerContainer}
use Rattle.manifest.specs.rule.Gates.{most_gates}
use Rattle.observations.specs.rule.Pods.{no_gates}
use Rattle.tick_lines.specs.declared.conditions.ConditionsMember.{ConditionsMember}
use Rattle.tick_lines.specs.declared.conditions.ConditionsMember.TheVariants as conditions
use Rattle.tick_lines.specs.rule.Statuses.{status_of}
use Rattle.tick_lines.specs.declared.listing.Listing.{Listing}
use Rattle.tick_lines.specs.declared.entry.TickEntry.{TickEntry}
use Rattle.tick_lines.specs.declared.probing.ProbeResult.{ProbeResult}
use Rattle.tick_lines.specs.declared.resizes.ContainerResize.{ContainerResize}
use Rattle.tick_lines.specs.declared.resizes.ResizedMember.{ResizedMember}
use Rattle.tick_lines.specs.declared.resizes.ResizedMember.TheVariants as resized
use Rattle.tick_lines.specs.declared.reason.ReasonMember.{ReasonMember}
use Rattle.tick_lines.specs.declared.reason.ReasonMember.TheVariants as reasons
use Rattle.tick_lines.specs.declared.truth.TruthMember.{TruthMember}
use Rattle.tick_lines.specs.declared.truth.TruthMember.TheVariants.{No, Yes, OfOtherKind}
use Rattle.manifest.specs.declared.outcome.ProbeKind.{ProbeKind}
use Rattle.trace.specs.declared.placing.PlacedListing.{PlacedListing}
use Rattle.trace.specs.declared.placing.PlacedResult.{PlacedResult}
use Rattle.trace.specs.declared.placing.EntrySaid.{EntrySaid}
use Rattle.trace.specs.declared.placing.PlacedEntry.{PlacedEntry}
use Rattle.roster.specs.rule.Roll.{Roll, number_of}
use Rattle.manifest.specs.rule.ProbeKinds.{place}

-- the number of the pod that an entry names
abbrev pub number_in : Roll → TickEntry → Result ℕ FaultKind
number_in roll entry = some_or StrangerPod (number_of roll entry.key)

abbrev pub pod_numbered : List PodSpec → ℕ → Result PodSpec FaultKind
pod_numbered pods number = some_or StrangerPod (slice_get pods number)

-- the number of the pod's container of this name
abbrev pub container_number : PodSpec → List ℕ → Result ℕ FaultKind
container_number pod name = some_or StrangerContainer (place_of (names_of pod.containers) name)

-- the listing of the pod's container that it names
abbrev pub placed_listing : PodSpec → Listing → Result PlacedListing FaultKind
placed_listing pod listing = container_number pod listing.name
    >>= λ number. Ok (record { container = number; instance = listing.instance })

-- the result of the pod's container that it names
abbrev pub placed_result : PodSpec → ProbeResult → Result PlacedResult FaultKind
placed_result pod r = container_number pod r.container
    >>= λ number. Ok (record { container = number; probe = r.probe; outcome = r.outcome })

-- the resize of the pod's container that it names
abbrev pub placed_resize : PodSpec → ContainerResize → Result Resize FaultKind
placed_resize pod resize = container_number pod resize.container
    >>= λ number. Ok (record { container = number; resources = resize.resources })

-- the resizes that an entry's member gives
abbrev pub resizes_given : ResizedMember → List ContainerResize
resizes_given resized.Missing = []
resizes_given (resized.Resizes resizes) = resizes
resizes_given resized.OfOtherKind = []

-- if the version reads the member
abbrev pub resizes_by : Bool → ResizedMember → List ContainerResize
resizes_by heeds member = if heeds then resizes_given member else []

abbrev pub says_so : TruthMember → Bool
says_so No = false
says_so Yes = true
says_so OfOtherKind = false

-- a sample that came, or this where none did
abbrev pub sampled_or : Sampling → Option Usage → Sampling
sampled_or other None = other
sampled_or other (Some usage) = Sampled usage

-- the sampling of an entry without a sample: "unsampled" counts if the version reads it
abbrev pub without_sample : Bool → TruthMember → Sampling
without_sample heeds unsampled = if heeds && says_so unsampled then Unsampled else Unsaid

-- the sampling of an entry's pod
abbrev pub sampling_of : Bool → Option Usage → TruthMember → Sampling
sampling_of heeds usage unsampled = sampled_or (without_sample heeds unsampled) usage

-- the reason for which an entry reports that the node has ended its pod
abbrev pub reason_given : ReasonMember → Option (List ℕ)
reason_given reasons.Missing = None
reason_given (reasons.Reason reason) = Some reason
reason_given reasons.OfOtherKind = None

-- the status that it gives of the condition that one of these gates names, by number
abbrev pub gate_given : List (List ℕ) → List (List ℕ × Option Bool) → ℕ → Option Bool
gate_given gates statuses number = option_and_then (status_of statuses) (slice_get gates number)

-- the statuses that it gives of the conditions that these gates name
abbrev pub gates_given : List (List ℕ) → ConditionsMember → List (Option Bool)
gates_given gates conditions.Missing = no_gates
gates_given gates (conditions.Statuses statuses) = map (gate_given gates statuses) (range_with_len 0 most_gates)
gates_given gates conditions.OfOtherKind = no_gates

-- its words, if the version reads them
abbrev pub words_of : Bool → List (List ℕ) → TruthMember → ReasonMember → ConditionsMember → PodWords
words_of heeds gates deleting failed conditions = record {
  deleting = heeds && says_so deleting;
  failed = if heeds then reason_given failed else None;
  gates = if heeds then gates_given gates conditions else no_gates;
}

-- what it has of the pod in addition to its listings and results
abbrev pub said_in : Bool → PodSpec → TickEntry → EntrySaid
said_in heeds pod entry = record {
  sampling = sampling_of heeds entry.usage entry.unsampled;
  words = words_of heeds pod.gates entry.deleting entry.failed entry.conditions;
}

-- an entry of the pod with this number
unfoldable pub entry_of_pod : Bool → List PodSpec → ℕ → TickEntry → Result PlacedEntry FaultKind
entry_of_pod heeds pods number entry = do
  pod ← pod_numbered pods number
  listings ← each (placed_listing pod) entry.listings
  results ← each (placed_result pod) entry.results
  resized ← each (placed_resize pod) (resizes_by heeds entry.resized)
  Ok (record {
    pod = number;
    listings = listings;
    results = results;
    resized = resized;
    said = said_in heeds pod entry;
  })

unfoldable pub placed_entry : Bool → Roll → TickEntry → Result PlacedEntry FaultKind
placed_entry heeds roll entry = number_in roll entry >>= λ number. entry_of_pod heeds roll.pods number entry

-- all entries: first every pod has to be known and present, then every container
unfoldable pub placed_of : Bool → Roll → List TickEntry → Result (List PlacedEntry) FaultKind
placed_of heeds roll entries = do
  numbers ← each (number_in roll) entries
  each (placed_entry heeds roll) entries

-- two of the items are alike
abbrev pub has_twice : {A : Type 0} → (A → A → Bool) → List A → Bool
has_twice are_alike [] = false
has_twice are_alike (x ∷ xs) = list_any (λ y. are_alike y x) xs || has_twice are_alike xs

abbrev pub are_of_one_pod : PlacedEntry → PlacedEntry → Bool
are_of_one_pod e f = e.pod == f.pod

abbrev pub are_of_one_container : PlacedListing → PlacedListing → Bool
are_of_one_container l m = l.container == m.container

-- the result is of this probe of the container with the number
abbrev pub is_of_probe : PlacedResult → ℕ → ProbeKind → Bool
is_of_probe r n probe = r.container == n && place r.probe == place probe

-- whatever their outcomes are
abbrev pub are_of_one_probe : PlacedResult → PlacedResult → Bool
are_of_one_probe r s = is_of_probe r s.container s.probe

-- a container is listed twice, or has two results of one probe
abbrev pub repeats : PlacedEntry → Bool
repeats e = has_twice are_of_one_container e.listings || has_twice are_of_one_probe e.results

-- a pod is listed twice, or an entry repeats a container or a probe
abbrev pub is_doubled : List PlacedEntry → Bool
is_doubled entries = has_twice are_of_one_pod entries || list_any repeats entries
