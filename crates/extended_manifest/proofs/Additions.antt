-- A manifest for which memory ran out has no fault of the standard format.
use Rattle.std.proofs.Common.{◌≡◌, true, Result, Ok, Err, IfErr, IsErrOf, refl, ap}
use Rattle.serde_json.specs.Data.{Data}
use Rattle.json_fields.specs.rule.Reading.{◌>>=◌}
use Rattle.manifest.specs.declared.pod.PodSpec.{PodSpec}
use Rattle.manifest_fields.specs.declared.fault.ManifestFault.{ManifestFault}
use Rattle.manifest_fields.specs.declared.fault.ManifestFault.TheVariants.{OutOfMemory}
use Rattle.manifest_reader.specs.rule.Manifest.{pod_in}
use Rattle.manifest_reader.proofs.NeverMemory.{pod_only}
use Rattle.extended_manifest.specs.rule.Extended.{Additions, additions_of, extended_by, extended_pod_at}

-- then the first fault of the additions is the manifest's
pub first_besides : (d : Data) (read : Result PodSpec ManifestFault) (fault : ManifestFault)
    → IfErr (pod_in true d) (IsErrOf read) → read ≡ Err OutOfMemory → additions_of d ≡ Err fault
    → extended_pod_at d ≡ Err fault
first_besides d read fault faults ran_out e = there (pod_in true d) refl faults
  where
    there : (r : Result PodSpec ManifestFault) → pod_in true d ≡ r → IfErr r (IsErrOf read)
        → (r >>= λ pod. additions_of d >>= λ more. Ok (extended_by pod more)) ≡ Err fault
    there (Ok pod) is same = ap (λ (more : Result Additions ManifestFault).
        more >>= λ more. Ok (extended_by pod more)) e
    there (Err other) is same =
        let e : other ≡ OutOfMemory = cc in
        absurd ((pod_only true d).has other is e)
