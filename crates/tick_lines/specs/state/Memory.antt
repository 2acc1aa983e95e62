-- Which fault of a tick line means that an allocation failed.
use Rattle.std.specs.Prelude.{Bool, true, false}
use Rattle.tick_lines.specs.declared.fault.TickLineFault.{TickLineFault}
use Rattle.tick_lines.specs.declared.fault.TickLineFault.TheVariants.{Usage, OutOfMemory}

abbrev pub is_memory : TickLineFault → Bool
is_memory Usage = false
is_memory OutOfMemory = true
