-- The pods of a trace, and which of them are present.
use Rattle.std.specs.Prelude.{ℕ, ◌+◌, Bool, false, List, [], ◌∷◌, ◌++◌, slice_get, slice_set}
use Rattle.std.specs.Prelude.{Option, Some, None, option_map, is_none, if◌then◌else◌, bytes_eq}
use Rattle.manifest.specs.declared.pod.PodSpec.{PodSpec}

-- the pods by number; for each how many ticks come before its arrival and, if it has left, before its departure
pub record Roll : Type 0 where
  pub pods : List PodSpec
  pub arrivals : List ℕ
  pub departures : List (Option ℕ)

abbrev pub roll : List PodSpec → List ℕ → List (Option ℕ) → Roll
roll pods arrivals departures = record { pods = pods; arrivals = arrivals; departures = departures }

-- no pods
abbrev pub nothing : Roll
nothing = roll [] [] []

-- a pod's key, NAMESPACE/NAME
abbrev pub key_of_pod : PodSpec → List ℕ
key_of_pod p = p.namespace ++ 47 ∷ p.name

-- the keys of the pods that are present, each at the number of its pod
abbrev pub present_keys : List PodSpec → List (Option ℕ) → List (Option (List ℕ))
present_keys [] departures = []
present_keys (p ∷ ps) [] = None ∷ present_keys ps []
present_keys (p ∷ ps) (None ∷ departures) = Some (key_of_pod p) ∷ present_keys ps departures
present_keys (p ∷ ps) (Some ticks ∷ departures) = None ∷ present_keys ps departures

-- the place of the first of the keys that equals this one
abbrev pub number_in : List (Option (List ℕ)) → List ℕ → Option ℕ
number_in [] key = None
number_in (None ∷ keys) key = option_map (λ i. i + 1) (number_in keys key)
number_in (Some k ∷ keys) key = if bytes_eq key k then Some 0 else option_map (λ i. i + 1) (number_in keys key)

abbrev pub keys_of : Roll → List (Option (List ℕ))
keys_of r = present_keys r.pods r.departures

-- the number of the pod that is present and has this key
abbrev pub number_of : Roll → List ℕ → Option ℕ
number_of r key = number_in (keys_of r) key

abbrev pub stays : Option (Option ℕ) → Bool
stays None = false
stays (Some departure) = is_none departure

-- the pod with the number has arrived and has not left
abbrev pub is_present : List (Option ℕ) → ℕ → Bool
is_present departures n = stays (slice_get departures n)

-- a pod arrives after the others, after this many ticks
abbrev pub with_pod : Roll → PodSpec → ℕ → Roll
with_pod r pod ticks = roll (r.pods ++ pod ∷ []) (r.arrivals ++ ticks ∷ []) (r.departures ++ None ∷ [])

-- the pod with the number leaves after this many ticks
abbrev pub without : Roll → ℕ → ℕ → Roll
without r number ticks = roll r.pods r.arrivals (slice_set r.departures number (Some ticks))
