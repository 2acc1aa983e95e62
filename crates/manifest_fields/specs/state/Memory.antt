-- Which fault of a manifest means that an allocation failed.
use Rattle.std.specs.Prelude.{Bool, true, false}
use Rattle.manifest_fields.specs.declared.fault.ManifestFault.{ManifestFault}
use Rattle.manifest_fields.specs.declared.fault.ManifestFault.TheVariants.{OutOfMemory}

abbrev pub is_memory : ManifestFault → Bool
is_memory OutOfMemory = true
is_memory fault = false
