-- What a manifest says of a pod in the extended format, or its first fault (Kubernetes API, `Pod`; "Pod Quality of
-- Service Classes"; "Pod Lifecycle", "Pod readiness" and "Individual container restart policy and rules").
use Rattle.std.specs.Prelude.{ℕ, ◌++◌, ◌∷◌, [], List, length, nat_le, Option, Some, option_and_then, if◌then◌else◌}
use Rattle.std.specs.Prelude.{Result, Ok, bytes_eq, codes, true}
use Rattle.std.specs.List.{list_any}
use Rattle.serde_json.specs.Data.{Data}
use Rattle.json_fields.specs.rule.Fields.{field_at}
use Rattle.json_fields.specs.rule.Reading.{◌>>=◌, refused_if}
use Rattle.manifest.specs.declared.pod.PodSpec.{PodSpec}
use Rattle.manifest.specs.rule.Gates.{is_condition_type, most_gates}
use Rattle.manifest.specs.rule.Resources.{Resources}
use Rattle.manifest_fields.specs.declared.fault.Field.TheVariants as fields
use Rattle.manifest_fields.specs.declared.fault.ManifestFault.{ManifestFault}
use Rattle.manifest_fields.specs.declared.fault.ManifestFault.TheVariants.{TooMany}
use Rattle.manifest_fields.specs.rule.Fields.{object_of, array_or_none, required_text}
use Rattle.manifest_fields.specs.rule.ResourceFields.{pod_resources_of}
use Rattle.manifest_reader.specs.rule.Manifest.{pod_in}

-- the field of this name in the manifest's `spec`
abbrev pub in_spec : List ℕ → Data → Option Data
in_spec name d = option_and_then (field_at name) (field_at (codes "spec") d)

-- one readiness gate: the type of the condition that it names
abbrev pub gate_of : Data → Result (List ℕ) ManifestFault
gate_of d = object_of fields.ReadinessGates (Some d)
    >>= λ gate. required_text is_condition_type fields.ReadinessGates (field_at (codes "conditionType") gate)

-- the gates with one more, which counts once
abbrev pub with_gate : List (List ℕ) → List ℕ → Result (List (List ℕ)) ManifestFault
with_gate gates name =
    if list_any (λ other. bytes_eq other name) gates then Ok gates
    else (refused_if (nat_le most_gates (length gates)) TooMany >>= λ room. Ok (gates ++ name ∷ []))

-- item by item: the first faulty one, or the first with which there are too many, gives the fault
abbrev pub gates_from : List (List ℕ) → List Data → Result (List (List ℕ)) ManifestFault
gates_from gates [] = Ok gates
gates_from gates (d ∷ ds) = gate_of d >>= λ name. with_gate gates name >>= λ more. gates_from more ds

-- the readiness gates, which may be left out
abbrev pub gates_of : Option Data → Result (List (List ℕ)) ManifestFault
gates_of found = array_or_none fields.ReadinessGates found >>= λ items. gates_from [] items

-- what is read of a manifest besides
pub record Additions : Type 0 where
  pub resources : Resources
  pub gates : List (List ℕ)

unfoldable pub additions_of : Data → Result Additions ManifestFault
additions_of d = do
  resources ← pod_resources_of (in_spec (codes "resources") d)
  gates ← gates_of (in_spec (codes "readinessGates") d)
  Ok (record { resources = resources; gates = gates })

-- the pod, with its additions
abbrev pub extended_by : PodSpec → Additions → PodSpec
extended_by pod more = record pod { resources = more.resources; gates = more.gates }

-- the pod that a manifest describes: the fields of the standard format, each container with its own restart policy and
-- rules, then the additions
abbrev pub extended_pod_at : Data → Result PodSpec ManifestFault
extended_pod_at d = pod_in true d >>= λ pod. additions_of d >>= λ more. Ok (extended_by pod more)
