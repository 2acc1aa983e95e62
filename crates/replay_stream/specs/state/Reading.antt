-- What the reading of a whole input says of its reader.
use Rattle.std.specs.Prelude.{ℕ, Result, Ok, Err}
use Rattle.replay_stream.specs.declared.fault.ReadAllFault.{ReadAllFault}
use Rattle.replay_stream.specs.declared.fault.ReadAllFault.TheVariants.{Read, TooLong, OutOfMemory}

-- how many reads failed in a call with this answer
abbrev pub failed_reads : {V : Type 0} → Result V ReadAllFault → ℕ
failed_reads (Ok all) = 0
failed_reads (Err Read) = 1
failed_reads (Err TooLong) = 0
failed_reads (Err OutOfMemory) = 0
