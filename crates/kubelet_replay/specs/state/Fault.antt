-- The status with which the program ends, and the line on standard error.
use Rattle.std.specs.Prelude.{ℕ, List, [], ◌∷◌, Option, Some, None, codes}
use Rattle.std.specs.Fmt.{decimal}
use Rattle.manifest_fields.specs.state.Fault.{number_of as manifest_number}
use Rattle.line_faults.specs.declared.fault.FaultKind.{FaultKind}
use Rattle.line_faults.specs.declared.fault.FaultKind.TheVariants.{Manifest}
use Rattle.line_faults.specs.state.Faults.{number_of, word_of}
use Rattle.event_list.specs.rule.Text.{joined}
use Rattle.kubelet_replay.specs.declared.fault.RunFault.{RunFault}
use Rattle.kubelet_replay.specs.declared.fault.RunFault.TheVariants.{Read, TooLong, Line, OutOfMemory, Write}

abbrev pub status : RunFault → ℕ
status Read = 1
status TooLong = 1
status (Line fault) = 2
status OutOfMemory = 1
status Write = 1

-- the number of a rejected manifest's own fault
abbrev pub reason_of : FaultKind → Option ℕ
reason_of (Manifest fault) = Some (manifest_number fault)
reason_of kind = None

abbrev pub line_text : ℕ → ℕ → List ℕ → List ℕ
line_text line number word = joined (codes "line " ∷ decimal line ∷ codes ": " ∷ decimal number ∷ codes " " ∷ word ∷ [])

abbrev pub with_reason : List ℕ → Option ℕ → List ℕ
with_reason text None = text
with_reason text (Some n) = joined (text ∷ codes " " ∷ decimal n ∷ [])

abbrev pub line_of_kind : ℕ → FaultKind → List ℕ
line_of_kind line kind = with_reason (line_text line (number_of kind) (word_of kind)) (reason_of kind)

abbrev pub line_of : RunFault → List ℕ
line_of Read = codes "read failed"
line_of TooLong = codes "input too long"
line_of (Line fault) = line_of_kind fault.line fault.kind
line_of OutOfMemory = codes "out of memory"
line_of Write = codes "write failed"
