-- What entries show of the pods, put at the pods' numbers as the entries come.
use Rattle.std.specs.Prelude.{ℕ, ◌+◌, ◌==◌, Bool, List, [], ◌∷◌, Option, Some, None, if◌then◌else◌}
use Rattle.std.specs.List.{list_any}
use Rattle.manifest.specs.declared.pod.PodSpec.{PodSpec}
use Rattle.observations.specs.rule.Pods.{PodObs}
use Rattle.trace.specs.declared.placing.PlacedEntry.{PlacedEntry}
use Rattle.roster.specs.rule.Roll.{is_present}
use Rattle.trace.specs.rule.Observed.{entry_for, pod_observed}

-- what its entry shows of a pod, if it has one
abbrev pub slot_of : ℕ → Option PlacedEntry → PodSpec → Option PodObs
slot_of at None pod = None
slot_of at (Some e) pod = Some (pod_observed at (Some e) pod)

-- what the entries show of each of the pods, numbered from n on; nothing of a pod without an entry
abbrev pub slots_from : ℕ → List PlacedEntry → ℕ → List PodSpec → List (Option PodObs)
slots_from at es n [] = []
slots_from at es n (p ∷ ps) = slot_of at (entry_for es n) p ∷ slots_from at es (n + 1) ps

-- one of the entries is of the pod with the number
abbrev pub has_entry : List PlacedEntry → ℕ → Bool
has_entry es number = list_any (λ f. f.pod == number) es

-- what is shown of a pod, once one without an entry that is present shows nothing of its containers
abbrev pub or_present : ℕ → Bool → PodSpec → Option PodObs → Option PodObs
or_present at is_present pod None = if is_present then Some (pod_observed at None pod) else None
or_present at is_present pod (Some shown) = Some shown

-- what is shown of each of the pods, numbered from n on, once those that are present and have no entry show nothing of
-- their containers
abbrev pub with_others : ℕ → List (Option ℕ) → ℕ → List PodSpec → List (Option PodObs) → List (Option PodObs)
with_others at departures n [] slots = []
with_others at departures n (p ∷ ps) [] = []
with_others at departures n (p ∷ ps) (slot ∷ slots) =
    or_present at (is_present departures n) p slot ∷ with_others at departures (n + 1) ps slots
