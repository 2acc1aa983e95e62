-- What a pod line has.
use Rattle.std.specs.Prelude.{ℕ, ⊤, nat_le, Bool, true, false, List, length, Option, option_and_then, is_some, Result}
use Rattle.std.specs.Prelude.{Ok, Err, ◌&&◌, codes}
use Rattle.observations.specs.rule.Limits.{most_pods}
use Rattle.serde_json.specs.Data.{Data}
use Rattle.manifest_fields.specs.declared.fault.ManifestFault.{ManifestFault}
use Rattle.manifest_fields.specs.declared.fault.ManifestFault.TheVariants.{Missing, WrongKind}
use Rattle.manifest_fields.specs.declared.fault.Field.TheVariants as fields
use Rattle.manifest.specs.declared.pod.PodSpec.{PodSpec}
use Rattle.manifest_reader.specs.rule.Manifest.{pod_at}
use Rattle.extended_manifest.specs.rule.Extended.{extended_pod_at}
use Rattle.json_fields.specs.rule.Fields.{field_at}
use Rattle.json_fields.specs.rule.Reading.{◌>>=◌, refused_if, some_or}
use Rattle.roster.specs.rule.Roll.{Roll, key_of_pod, number_of}
use Rattle.tick_lines.specs.declared.truth.TruthMember.{TruthMember}
use Rattle.tick_lines.specs.rule.Truths.{truth_of}
use Rattle.trace.specs.rule.Placing.{says_so}
use Rattle.trace.specs.rule.Written.{is_of_other_kind}
use Rattle.line_faults.specs.declared.fault.FaultKind.{FaultKind}
use Rattle.line_faults.specs.declared.fault.FaultKind.TheVariants.{Manifest, DuplicatePod, TooMany}

-- there is room for one pod more
abbrev pub room_for_pod : List PodSpec → Result ⊤ FaultKind
room_for_pod pods = refused_if (nat_le most_pods (length pods)) TooMany

-- a pod that is present has this key
abbrev pub has_key : Roll → List ℕ → Bool
has_key roll key = is_some (number_of roll key)

-- no pod that is present has this pod's key
abbrev pub new_key : Roll → PodSpec → Result ⊤ FaultKind
new_key roll pod = refused_if (has_key roll (key_of_pod pod)) DuplicatePod

-- the number of the pod that a line names, if one of that key is present
abbrev pub named_in : Roll → Option (List ℕ) → Option ℕ
named_in roll key = option_and_then (number_of roll) key

abbrev pub of_manifest : {A : Type 0} → Result A ManifestFault → Result A FaultKind
of_manifest (Ok x) = Ok x
of_manifest (Err fault) = Err (Manifest fault)

-- the line's manifest
abbrev pub manifest_of : Option Data → Result Data FaultKind
manifest_of found = some_or (Manifest (Missing fields.Pod)) found

-- the pod that a manifest describes, by whether the version reads the extended format's fields
abbrev pub manifest_read : Bool → Data → Result PodSpec ManifestFault
manifest_read true d = extended_pod_at d
manifest_read false d = pod_at d

-- the pod that the line's manifest describes
abbrev pub pod_from : Bool → Option Data → Result PodSpec FaultKind
pod_from heeds found = manifest_of found >>= λ d. of_manifest (manifest_read heeds d)

-- the pod, with whether the node exempts it from eviction, if the version reads that
abbrev pub spared_by : Bool → TruthMember → PodSpec → Result PodSpec FaultKind
spared_by heeds spared pod =
    refused_if (heeds && is_of_other_kind spared) (Manifest (WrongKind fields.Spared))
    >>= λ known. Ok (record pod { spared = heeds && says_so spared })

-- the pod of a pod line: its manifest's, which the node exempts from eviction or doesn't
abbrev pub pod_of_line : Bool → Data → Result PodSpec FaultKind
pod_of_line heeds d =
    pod_from heeds (field_at (codes "pod") d) >>= spared_by heeds (truth_of (field_at (codes "spared") d))
