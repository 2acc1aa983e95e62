-- The resources that a manifest writes (Kubernetes, "Resource Management for Pods and Containers").
use Rattle.std.specs.Prelude.{ℕ, ⊤, Option, Some, None, Result, Ok, Err, codes}
use Rattle.serde_json.specs.Data.{Data}
use Rattle.json_fields.specs.rule.Fields.{field_at}
use Rattle.json_fields.specs.rule.Reading.{◌>>=◌, refused_if}
use Rattle.json_fields.specs.rule.Quantities.{quantity_in}
use Rattle.json_fields.specs.declared.fault.FieldFault.{FieldFault}
use Rattle.manifest_fields.specs.declared.fault.Field.TheVariants as fields
use Rattle.manifest_fields.specs.declared.fault.ManifestFault.{ManifestFault}
use Rattle.manifest_fields.specs.declared.fault.ManifestFault.TheVariants.{RequestAboveLimit}
use Rattle.manifest.specs.declared.resources.Amounts.{Amounts}
use Rattle.manifest_fields.specs.rule.Fault.{resource_fault}
use Rattle.manifest.specs.rule.Resources.{Resources, nothing, no_resources, some_above}
use Rattle.manifest_fields.specs.rule.Fields.{object_of}

abbrev pub quantity_read : Result ℕ FieldFault → Result ℕ ManifestFault
quantity_read (Ok thousandths) = Ok thousandths
quantity_read (Err fault) = Err (resource_fault fault)

-- a quantity that may be left out: a text or a number of units
abbrev pub quantity_at : Option Data → Result (Option ℕ) ManifestFault
quantity_at None = Ok None
quantity_at (Some d) = quantity_read (quantity_in d) >>= λ thousandths. Ok (Some thousandths)

-- the requests or the limits; other resources are not read
unfoldable pub amounts_in : Data → Result Amounts ManifestFault
amounts_in d = do
  amounts ← object_of fields.Resources (Some d)
  cpu ← quantity_at (field_at (codes "cpu") amounts)
  memory ← quantity_at (field_at (codes "memory") amounts)
  ephemeral_storage ← quantity_at (field_at (codes "ephemeral-storage") amounts)
  Ok (record { cpu = cpu; memory = memory; ephemeral_storage = ephemeral_storage })

abbrev pub amounts_of : Option Data → Result Amounts ManifestFault
amounts_of None = Ok nothing
amounts_of (Some d) = amounts_in d

abbrev pub none_above : Amounts → Amounts → Result ⊤ ManifestFault
none_above requests limits = refused_if (some_above requests limits) RequestAboveLimit

unfoldable pub resources_in : Data → Result Resources ManifestFault
resources_in d = do
  resources ← object_of fields.Resources (Some d)
  requests ← amounts_of (field_at (codes "requests") resources)
  limits ← amounts_of (field_at (codes "limits") resources)
  low ← none_above requests limits
  Ok (record { requests = requests; limits = limits })

-- a container's resources, which may be left out
abbrev pub resources_of : Option Data → Result Resources ManifestFault
resources_of None = Ok no_resources
resources_of (Some d) = resources_in d

-- the requests or the limits of a pod as a whole, which may have other resources: only these two are read
unfoldable pub pod_amounts_in : Data → Result Amounts ManifestFault
pod_amounts_in d = do
  amounts ← object_of fields.Resources (Some d)
  cpu ← quantity_at (field_at (codes "cpu") amounts)
  memory ← quantity_at (field_at (codes "memory") amounts)
  Ok (record { cpu = cpu; memory = memory; ephemeral_storage = None })

abbrev pub pod_amounts_of : Option Data → Result Amounts ManifestFault
pod_amounts_of None = Ok nothing
pod_amounts_of (Some d) = pod_amounts_in d

unfoldable pub pod_resources_in : Data → Result Resources ManifestFault
pod_resources_in d = do
  resources ← object_of fields.Resources (Some d)
  requests ← pod_amounts_of (field_at (codes "requests") resources)
  limits ← pod_amounts_of (field_at (codes "limits") resources)
  low ← none_above requests limits
  Ok (record { requests = requests; limits = limits })

-- a pod's resources as a whole, which may be left out (Kubernetes, "Resource Management for Pods and Containers",
-- "Pod-level resource specification")
abbrev pub pod_resources_of : Option Data → Result Resources ManifestFault
pod_resources_of None = Ok no_resources
pod_resources_of (Some d) = pod_resources_in d
