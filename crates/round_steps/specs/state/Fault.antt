-- The status with which the program ends, and the line on standard error.
use Rattle.std.specs.Prelude.{ℕ, List, ◌++◌, codes}
use Rattle.std.specs.Fmt.{decimal}
use Rattle.round_steps.specs.declared.fault.StepsFault.{StepsFault}
use Rattle.round_steps.specs.declared.fault.StepsFault.TheVariants.{TooLong, Line, OutOfMemory}

abbrev pub status : StepsFault → ℕ
status TooLong = 1
status (Line number) = 3
status OutOfMemory = 1

abbrev pub line_of : StepsFault → List ℕ
line_of TooLong = codes "input too long"
line_of (Line number) = codes "steps line " ++ decimal number
line_of OutOfMemory = codes "out of memory"
