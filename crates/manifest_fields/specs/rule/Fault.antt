-- The faults of a quantity in a manifest.
use Rattle.json_fields.specs.declared.fault.FieldFault.{FieldFault}
use Rattle.json_fields.specs.declared.fault.FieldFault.TheVariants.{WrongKind as OtherKind, Faulty}
use Rattle.manifest_fields.specs.declared.fault.Field.TheVariants as fields
use Rattle.manifest_fields.specs.declared.fault.ManifestFault.{ManifestFault}
use Rattle.manifest_fields.specs.declared.fault.ManifestFault.TheVariants.{WrongKind, Quantity}

-- a container's resources alone hold quantities
abbrev pub resource_fault : FieldFault → ManifestFault
resource_fault OtherKind = WrongKind fields.Resources
resource_fault (Faulty fault) = Quantity fault
