-- What the fault of a manifest becomes.
use Rattle.std.proofs.Common.{◌≡◌, ◌∙◌, Bool, true, false, ◌&&◌, Option, Some, None, Result, Ok, Err, refl, ap, IfErr}
use Rattle.std.proofs.Common.{IsErrOf}
use Rattle.std.specs.Prelude.{⊤}
use Rattle.serde_json.specs.Data.{Data}
use Rattle.manifest.specs.declared.pod.PodSpec.{PodSpec}
use Rattle.manifest_fields.specs.declared.fault.ManifestFault.{ManifestFault}
use Rattle.manifest_fields.specs.declared.fault.ManifestFault.TheVariants as faults
use Rattle.json_fields.proofs.Only.{Only}
use Rattle.manifest_reader.proofs.NeverMemory.{IsFound, pod_only}
use Rattle.extended_manifest.proofs.NeverMemory.{extended_only}
use Rattle.line_faults.specs.declared.fault.FaultKind.{FaultKind}
use Rattle.line_faults.specs.declared.fault.FaultKind.TheVariants.{Manifest, OutOfMemory}
use Rattle.json_fields.specs.rule.Reading.{◌>>=◌, refused_if}
use Rattle.manifest_fields.specs.declared.fault.Field.TheVariants as fields
use Rattle.tick_lines.specs.declared.truth.TruthMember.{TruthMember}
use Rattle.trace.specs.rule.Placing.{says_so}
use Rattle.trace.specs.rule.Written.{is_of_other_kind}
use Rattle.line_faults.specs.state.Faults.{kind_of_manifest_fault}
use Rattle.trace.specs.rule.Pod.{of_manifest, manifest_read, pod_from, spared_by}

kept : (fault : ManifestFault) → IsFound fault → kind_of_manifest_fault fault ≡ Manifest fault
kept (faults.Missing field) found = refl
kept (faults.WrongKind field) found = refl
kept (faults.Quantity other) found = refl
kept faults.ProbeRange found = refl
kept faults.InitProbe found = refl
kept faults.RequestAboveLimit found = refl
kept faults.DuplicateContainer found = refl
kept faults.Sidecar found = refl
kept faults.TooMany found = refl
kept faults.OutOfMemory found = absurd (found refl)

-- no fault of a manifest is that memory ran out
pub read_only : (heeds : Bool) (d : Data) → Only IsFound (manifest_read heeds d)
read_only true d = extended_only d
read_only false d = pod_only false d

-- a fault of the manifest is that of the line
pub manifest_fault : (heeds : Bool) (d : Data) (fault : ManifestFault) (kind : FaultKind)
    → IfErr (manifest_read heeds d) (IsErrOf {T = PodSpec} (Err fault)) → kind ≡ kind_of_manifest_fault fault
    → IfErr (of_manifest (manifest_read heeds d)) (IsErrOf {T = PodSpec} (Err kind))
manifest_fault heeds d fault kind answered is = there (manifest_read heeds d) refl answered
  where
    there : (r : Result PodSpec ManifestFault) → manifest_read heeds d ≡ r → IfErr r (IsErrOf {T = PodSpec} (Err fault))
        → IfErr (of_manifest r) (IsErrOf {T = PodSpec} (Err kind))
    there (Ok pod) read same = tt
    there (Err other) refused same =
        let is_other : fault ≡ other = cc in
        let answer : FaultKind → Result PodSpec FaultKind = λ k. Err k in
        ap answer (is ∙ (ap kind_of_manifest_fault is_other ∙ kept other ((read_only heeds d).has other refused)))

-- no fault of a pod line's manifest is that memory ran out
never_memory : (heeds : Bool) (found : Option Data) → pod_from heeds found ≡ Err OutOfMemory → ⊥
never_memory heeds None e = absurd (cc)
never_memory heeds (Some d) e = there (manifest_read heeds d) e
  where
    there : (r : Result PodSpec ManifestFault) → of_manifest r ≡ Err OutOfMemory → ⊥
    there (Ok pod) e = absurd (cc)
    there (Err fault) e = absurd (cc)

-- where memory ran out for the manifest, the first fault is that of the member behind it
pub first_besides : (heeds : Bool) (found : Option Data) (spared : TruthMember) (answer : Result PodSpec FaultKind)
    (kind : FaultKind) → IfErr (pod_from heeds found) (IsErrOf answer) → answer ≡ Err OutOfMemory
    → refused_if (heeds && is_of_other_kind spared) (Manifest (faults.WrongKind fields.Spared)) ≡ Err kind
    → (pod_from heeds found >>= spared_by heeds spared) ≡ Err kind
first_besides heeds found spared answer kind answered ran_out e = there (pod_from heeds found) refl answered
  where
    there : (r : Result PodSpec FaultKind) → pod_from heeds found ≡ r → IfErr r (IsErrOf answer)
        → (r >>= spared_by heeds spared) ≡ Err kind
    there (Ok pod) is same = ap (λ (known : Result ⊤ FaultKind).
        known >>= λ u. Ok (record pod { spared = heeds && says_so spared })) e
    there (Err other) is same =
        let memory : other ≡ OutOfMemory = cc in
        absurd (never_memory heeds found (is ∙ ap (λ (k : FaultKind). Err k) memory))
