-- Which fault of a line means that an allocation failed.
use Rattle.std.specs.Prelude.{Bool, true, false, Result}
use Rattle.json_fields.specs.state.Reading.{GivesUnless}
use Rattle.line_faults.specs.declared.fault.FaultKind.{FaultKind}
use Rattle.line_faults.specs.declared.fault.FaultKind.TheVariants.{OutOfMemory}
use Rattle.line_faults.specs.declared.fault.LineFault.{LineFault}

abbrev pub is_memory : FaultKind → Bool
is_memory OutOfMemory = true
is_memory kind = false

-- a call that takes memory answers what the definition gives, with the line of a fault, or that memory ran out
abbrev pub GivesAt : {X Y : Type 0} → (X → Y) → Result X LineFault → Result Y LineFault → Type 0
GivesAt view result given = GivesUnless (λ fault. is_memory fault.kind) view result given
