-- The texts of a restart policy (Kubernetes, "Pod Lifecycle", "Container restart policy").
use Rattle.std.specs.Prelude.{ℕ, List, Option, Some, None, if◌then◌else◌, Result, Ok, Err, bytes_eq, codes}
use Rattle.manifest_fields.specs.declared.fault.Field.TheVariants as fields
use Rattle.manifest_fields.specs.declared.fault.ManifestFault.{ManifestFault}
use Rattle.manifest_fields.specs.declared.fault.ManifestFault.TheVariants.{WrongKind}
use Rattle.manifest.specs.declared.policy.Policy.{Policy}
use Rattle.manifest.specs.declared.policy.Policy.TheVariants.{Always, OnFailure, Never}

abbrev pub policy_from : Option (List ℕ) → Result Policy ManifestFault
policy_from None = Err (WrongKind fields.RestartPolicy)
policy_from (Some text) =
    if bytes_eq text (codes "Always") then Ok Always
    else (if bytes_eq text (codes "OnFailure") then Ok OnFailure
    else (if bytes_eq text (codes "Never") then Ok Never else Err (WrongKind fields.RestartPolicy)))
