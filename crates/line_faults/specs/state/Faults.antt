-- The numbers and words by which a refusal names the kind of a faulty line, and the kind of a manifest's faults.
use Rattle.std.specs.Prelude.{ℕ, List, codes}
use Rattle.manifest_fields.specs.declared.fault.ManifestFault.{ManifestFault}
use Rattle.manifest_fields.specs.declared.fault.ManifestFault.TheVariants as manifest_faults
use Rattle.line_faults.specs.declared.fault.FaultKind.{FaultKind}
use Rattle.line_faults.specs.declared.fault.FaultKind.TheVariants.{TooLong, NotJson, UnknownKind, Order}
use Rattle.line_faults.specs.declared.fault.FaultKind.TheVariants.{Manifest, Config, SoftWithoutGrace}
use Rattle.line_faults.specs.declared.fault.FaultKind.TheVariants.{DuplicatePod, StrangerPod, StrangerContainer}
use Rattle.line_faults.specs.declared.fault.FaultKind.TheVariants.{Doubled, Moment, Backwards, ExitCode}
use Rattle.line_faults.specs.declared.fault.FaultKind.TheVariants.{TooMany, Usage, OutOfMemory}

-- the number and the word by which a refusal names the kind
abbrev pub refusal_of : FaultKind → ℕ × List ℕ
refusal_of TooLong = (31, codes "TooLong")
refusal_of NotJson = (32, codes "NotJson")
refusal_of UnknownKind = (33, codes "UnknownKind")
refusal_of Order = (34, codes "Order")
refusal_of (Manifest fault) = (35, codes "Manifest")
refusal_of Config = (36, codes "Config")
refusal_of SoftWithoutGrace = (37, codes "SoftWithoutGrace")
refusal_of DuplicatePod = (38, codes "DuplicatePod")
refusal_of StrangerPod = (39, codes "StrangerPod")
refusal_of StrangerContainer = (40, codes "StrangerContainer")
refusal_of Doubled = (41, codes "Doubled")
refusal_of Moment = (42, codes "Moment")
refusal_of Backwards = (43, codes "Backwards")
refusal_of ExitCode = (44, codes "ExitCode")
refusal_of TooMany = (45, codes "TooMany")
refusal_of Usage = (46, codes "Usage")
refusal_of OutOfMemory = (47, codes "OutOfMemory")

abbrev pub number_of : FaultKind → ℕ
number_of kind = (refusal_of kind).0

abbrev pub word_of : FaultKind → List ℕ
word_of kind = (refusal_of kind).1

abbrev pub kind_of_manifest_fault : ManifestFault → FaultKind
kind_of_manifest_fault manifest_faults.OutOfMemory = OutOfMemory
kind_of_manifest_fault fault = Manifest fault
