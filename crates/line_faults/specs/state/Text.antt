-- Whether a line says something, whatever is past.
use Rattle.std.specs.Prelude.{ℕ, ⊤, Option, Result, Ok, Err}
use Rattle.json_lines.specs.state.Lines.{LineData, Blank, TooLong, NotJson, Tick, Json}
use Rattle.line_faults.specs.declared.fault.FaultKind.{FaultKind}
use Rattle.line_faults.specs.declared.fault.FaultKind.TheVariants as kinds

-- a line says something, or it is too long or no JSON
abbrev pub said_at : LineData → Result ⊤ FaultKind
said_at Blank = Ok tt
said_at TooLong = Err kinds.TooLong
said_at NotJson = Err kinds.NotJson
said_at (Tick moment said) = Ok tt
said_at (Json d) = Ok tt
