-- The numbers of the faults of a manifest.
use Rattle.std.specs.Prelude.{ℕ}
use Rattle.manifest_fields.specs.declared.fault.ManifestFault.{ManifestFault}
use Rattle.manifest_fields.specs.declared.fault.ManifestFault.TheVariants.{Missing, WrongKind, Quantity, ProbeRange}
use Rattle.manifest_fields.specs.declared.fault.ManifestFault.TheVariants.{InitProbe, RequestAboveLimit}
use Rattle.manifest_fields.specs.declared.fault.ManifestFault.TheVariants.{DuplicateContainer, Sidecar, TooMany}
use Rattle.manifest_fields.specs.declared.fault.ManifestFault.TheVariants.{OutOfMemory}

abbrev pub number_of : ManifestFault → ℕ
number_of (Missing field) = 11
number_of (WrongKind field) = 12
number_of (Quantity fault) = 13
number_of ProbeRange = 14
number_of InitProbe = 15
number_of RequestAboveLimit = 16
number_of DuplicateContainer = 17
number_of Sidecar = 18
number_of TooMany = 19
number_of OutOfMemory = 20
