-- What the definition of a manifest implies, in the words of the table of its checks.
use Rattle.std.specs.Prelude.{◌≡◌, ◌≢◌, ◌↔◌, List, ◌∷◌, ◌++◌, All, Option, Some, None, Ok, Err}
use Rattle.serde_json.specs.Data.{Data}
use Rattle.manifest_fields.specs.declared.fault.ManifestFault.{ManifestFault}
use Rattle.manifest_fields.specs.declared.fault.ManifestFault.TheVariants.{OutOfMemory}
use Rattle.manifest.specs.declared.pod.PodSpec.{PodSpec}
use Rattle.manifest_reader.specs.rule.Manifest.{pod_at}
use Rattle.manifest_reader.specs.state.Table.{fault_at, checks_of}

-- a check is passed that answers no fault
abbrev pub Passes : {Check : Type 0} → (Check → Option ManifestFault) → Check → Type 0
Passes answer check = answer check ≡ None

-- the first of these checks that is failed, in their order, answers the fault
pub record FailsFirst {Check : Type 0} (answer : Check → Option ManifestFault) (checks : List Check)
    (fault : ManifestFault) : Type 0 where
  pub earlier : List Check
  pub check : Check
  pub later : List Check
  pub in_order : checks ≡ earlier ++ check ∷ later
  pub passed : All (Passes answer) earlier
  pub failed : answer check ≡ Some fault

-- a manifest is rejected exactly with the first check of the table that it fails
abbrev pub FirstCheck : Type 0
FirstCheck = (d : Data) (fault : ManifestFault) → (pod_at d ≡ Err fault ↔ FailsFirst (fault_at d) (checks_of d) fault)

-- and it describes a pod exactly if it passes every check
abbrev pub EveryCheck : Type 0
EveryCheck = (d : Data) → (((pod : PodSpec) × (pod_at d ≡ Ok pod)) ↔ All (Passes (fault_at d)) (checks_of d))

-- no manifest is rejected because an allocation failed
abbrev pub NeverMemory : Type 0
NeverMemory = (d : Data) (fault : ManifestFault) → pod_at d ≡ Err fault → fault ≢ OutOfMemory
