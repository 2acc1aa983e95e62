use Rattle.std.proofs.Common.{◌≡◌, ◌&&◌, rules, Err}
use Rattle.manifest_fields.specs.declared.fault.Field.TheVariants as fields
use Rattle.manifest_fields.specs.declared.fault.ManifestFault.TheVariants.{WrongKind}
use Rattle.line_faults.specs.declared.fault.FaultKind.TheVariants.{Manifest}
use Rattle.json_fields.specs.rule.Reading.{refused_if}
use Rattle.trace.specs.rule.Written.{is_of_other_kind}
use Rattle.trace.proofs.Manifests.{first_besides}
use Rattle.trace.proofs.pod.pod_of_line.Goals as goal

pub returns-in_err-known_spared-in-Err-OutOfMemory-clause-gives :
    goal.returns-in_err-known_spared-in-Err-OutOfMemory-clause-gives
returns-in_err-known_spared-in-Err-OutOfMemory-clause-gives c =
    let refused :
    refused_if (c.args.heeds && is_of_other_kind c.truth_of-spared.result) (Manifest (WrongKind fields.Spared))
    ≡ Err c.in_err-known_spared-in-Err-OutOfMemory.field-0.0 = search rules in
    let first = first_besides c.args.heeds _ c.truth_of-spared.result c.pod_from.result _ c.pod_from.ensures.faults
    (search rules) refused in
    search rules

pub returns-in_err-known_spared-in-Err-OutOfMemory-clause-faults :
    goal.returns-in_err-known_spared-in-Err-OutOfMemory-clause-faults
returns-in_err-known_spared-in-Err-OutOfMemory-clause-faults c =
    let refused :
    refused_if (c.args.heeds && is_of_other_kind c.truth_of-spared.result) (Manifest (WrongKind fields.Spared))
    ≡ Err c.in_err-known_spared-in-Err-OutOfMemory.field-0.0 = search rules in
    let first = first_besides c.args.heeds _ c.truth_of-spared.result c.pod_from.result _ c.pod_from.ensures.faults
    (search rules) refused in
    search rules
