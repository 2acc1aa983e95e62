-- The faults of a manifest in the extended format, none of which is that memory ran out.
use Rattle.std.proofs.Common.{◌≡◌, ◌∙◌, ℕ, Bool, true, List, [], ◌∷◌, ◌++◌, length, Option, Some, None, Result}
use Rattle.std.proofs.Common.{Ok, Err, ap, nat_le}
use Rattle.std.specs.Prelude.{codes, bytes_eq}
use Rattle.std.specs.List.{list_any}
use Rattle.serde_json.specs.Data.{Data}
use Rattle.json_fields.specs.rule.Fields.{field_at}
use Rattle.json_fields.proofs.Only.{Only, only_ok, only_bind, only_if, only_refused, same_value}
use Rattle.json_fields.proofs.Steps.{bind_ok}
use Rattle.manifest.specs.declared.pod.PodSpec.{PodSpec}
use Rattle.manifest.specs.rule.Gates.{is_condition_type, most_gates}
use Rattle.manifest.specs.rule.Resources.{nothing, no_resources, some_above}
use Rattle.manifest_fields.specs.declared.fault.Field.TheVariants as fields
use Rattle.manifest_fields.specs.declared.fault.ManifestFault.{ManifestFault}
use Rattle.manifest_fields.specs.declared.fault.ManifestFault.TheVariants.{RequestAboveLimit, TooMany}
use Rattle.manifest_fields.specs.rule.ResourceFields.{pod_amounts_in, pod_amounts_of, pod_resources_in}
use Rattle.manifest_fields.specs.rule.ResourceFields.{pod_resources_of}
use Rattle.manifest_reader.specs.rule.Manifest.{pod_in}
use Rattle.manifest_reader.proofs.NeverMemory.{IsFound, object_only, quantity_only, array_or_none_only, required_only}
use Rattle.manifest_reader.proofs.NeverMemory.{pod_only}
use Rattle.extended_manifest.specs.rule.Extended.{in_spec, gate_of, with_gate, gates_from, gates_of, Additions}
use Rattle.extended_manifest.specs.rule.Extended.{additions_of, extended_by, extended_pod_at}

amounts_in_only : (d : Data) → Only IsFound (pod_amounts_in d)
unfolding pod_amounts_in
amounts_in_only d =
    let P = IsFound in
    only_bind P _ _ (object_only fields.Resources (Some d)) (λ amounts.
    only_bind P _ _ (quantity_only (field_at (codes "cpu") amounts)) (λ cpu.
    only_bind P _ _ (quantity_only (field_at (codes "memory") amounts)) (λ memory. only_ok P _)))

amounts_only : (found : Option Data) → Only IsFound (pod_amounts_of found)
amounts_only None = only_ok IsFound nothing
amounts_only (Some d) = amounts_in_only d

resources_in_only : (d : Data) → Only IsFound (pod_resources_in d)
unfolding pod_resources_in
resources_in_only d =
    let P = IsFound in
    only_bind P _ _ (object_only fields.Resources (Some d)) (λ resources.
    only_bind P _ _ (amounts_only (field_at (codes "requests") resources)) (λ requests.
    only_bind P _ _ (amounts_only (field_at (codes "limits") resources)) (λ limits.
    only_bind P _ _ (only_refused P (some_above requests limits) RequestAboveLimit (λ is. absurd (cc)))
    (λ within. only_ok P _))))

resources_only : (found : Option Data) → Only IsFound (pod_resources_of found)
resources_only None = only_ok IsFound no_resources
resources_only (Some d) = resources_in_only d

gate_only : (d : Data) → Only IsFound (gate_of d)
gate_only d = only_bind IsFound _ _ (object_only fields.ReadinessGates (Some d))
    (λ gate. required_only is_condition_type fields.ReadinessGates (field_at (codes "conditionType") gate))

with_gate_only : (gates : List (List ℕ)) (name : List ℕ) → Only IsFound (with_gate gates name)
with_gate_only gates name =
    only_if IsFound (list_any (λ other. bytes_eq other name) gates) (Ok gates) _ (only_ok IsFound gates)
    (only_bind IsFound _ _ (only_refused IsFound (nat_le most_gates (length gates)) TooMany (λ is. absurd (cc)))
    (λ room. only_ok IsFound (gates ++ name ∷ [])))

gates_from_only : (gates : List (List ℕ)) (ds : List Data) → Only IsFound (gates_from gates ds)
gates_from_only gates [] = only_ok IsFound gates
gates_from_only gates (d ∷ ds) =
    only_bind IsFound _ _ (gate_only d) (λ name.
    only_bind IsFound _ _ (with_gate_only gates name) (λ more. gates_from_only more ds))

gates_only : (found : Option Data) → Only IsFound (gates_of found)
gates_only found = only_bind IsFound _ _ (array_or_none_only fields.ReadinessGates found)
    (λ items. gates_from_only [] items)

additions_only : (d : Data) → Only IsFound (additions_of d)
unfolding additions_of
additions_only d =
    only_bind IsFound _ _ (resources_only (in_spec (codes "resources") d)) (λ resources.
    only_bind IsFound _ _ (gates_only (in_spec (codes "readinessGates") d)) (λ gates. only_ok IsFound _))

pub extended_only : (d : Data) → Only IsFound (extended_pod_at d)
extended_only d =
    only_bind IsFound (pod_in true d) _ (pod_only true d) (λ pod.
    only_bind IsFound (additions_of d) _ (additions_only d) (λ more. only_ok IsFound (extended_by pod more)))

-- the pod has the containers that it has in the standard format
pub extended_of : (d : Data) (pod : PodSpec) → extended_pod_at d ≡ Ok pod
    → (standard : PodSpec) × (pod_in true d ≡ Ok standard) × (standard.containers ≡ pod.containers)
extended_of d pod e =
    let first = bind_ok (pod_in true d) _ pod e in
    let second = bind_ok (additions_of d) _ pod first.2 in (
      first.0,
      first.1,
      ap (λ (p : PodSpec). p.containers)
          (same_value {E = ManifestFault} (extended_by first.0 second.0) pod second.2),
    )
