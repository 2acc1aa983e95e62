-- What a call that reads a text and writes an answer passes on from its callees.
use Rattle.std.specs.Prelude.{◌≡◌, ℕ, ◌<◌, List, length, take, Option, Result, Ok, Err}
use Rattle.std.specs.Io.KnownBytes.{Appends}
use Rattle.node_config.specs.declared.node.Format.{Format}
use Rattle.replay_stream.specs.declared.fault.ReadAllFault.{ReadAllFault}
use Rattle.replay_stream.specs.declared.fault.ReadAllFault.TheVariants as stream
use Rattle.trace.specs.declared.trace_so_far.Trace.{Trace}
use Rattle.line_faults.specs.declared.fault.FaultKind.{FaultKind}
use Rattle.line_faults.specs.declared.fault.FaultKind.TheVariants as kinds
use Rattle.line_faults.specs.declared.fault.LineFault.{LineFault}
use Rattle.trace.specs.rule.Trace.{trace_of}
use Rattle.kubelet_replay.specs.declared.fault.RunFault.{RunFault}
use Rattle.kubelet_replay.specs.declared.fault.RunFault.TheVariants.{Read, TooLong, Line, OutOfMemory, Write}
use Rattle.kubelet_replay.specs.rule.Run.{IsTooLong}

abbrev pub run_fault : FaultKind → LineFault → RunFault
run_fault kinds.OutOfMemory fault = OutOfMemory
run_fault kind fault = Line fault

-- a faulty line is named, unless memory ran out
abbrev pub fault_of : LineFault → RunFault
fault_of fault = run_fault fault.kind fault

-- the trace that was read, or why there is none
abbrev pub trace_or_fault : Result Trace LineFault → Result Trace RunFault
trace_or_fault (Ok trace) = Ok trace
trace_or_fault (Err fault) = Err (fault_of fault)

-- the text that was made, or a failed allocation
abbrev pub report_or_fault : {V A : Type 0} → Result V A → Result V RunFault
report_or_fault (Ok text) = Ok text
report_or_fault (Err refused) = Err OutOfMemory

-- why the input was not read
abbrev pub read_fault_of : ReadAllFault → RunFault
read_fault_of stream.Read = Read
read_fault_of stream.TooLong = TooLong
read_fault_of stream.OutOfMemory = OutOfMemory

-- the text that was read, or why there is none
abbrev pub text_or_fault : {V : Type 0} → Result V ReadAllFault → Result V RunFault
text_or_fault (Ok text) = Ok text
text_or_fault (Err fault) = Err (read_fault_of fault)

-- the input is rejected as it is read
abbrev pub Refuses : Option (List ℕ) → RunFault → Type 0
Refuses left Read = Unit {0}
Refuses left TooLong = IsTooLong left
Refuses left (Line fault) = ⊥
Refuses left OutOfMemory = Unit {0}
Refuses left Write = ⊥

-- the text is rejected: at its first faulty line, or because an allocation failed
abbrev pub RefusesText : Format → List ℕ → RunFault → Type 0
RefusesText format text Read = ⊥
RefusesText format text TooLong = ⊥
RefusesText format text (Line fault) = trace_of format text ≡ Err fault
RefusesText format text OutOfMemory = Unit {0}
RefusesText format text Write = ⊥

-- all of the text was written, or a part of it from its beginning
abbrev pub IsWritten : Option (List ℕ) → Option (List ℕ) → List ℕ → {V : Type 0} → Result V RunFault → Type 0
IsWritten old new text (Ok v) = Appends old new text
IsWritten old new text (Err Read) = ⊥
IsWritten old new text (Err TooLong) = ⊥
IsWritten old new text (Err (Line fault)) = ⊥
IsWritten old new text (Err OutOfMemory) = ⊥
IsWritten old new text (Err Write) = (n : ℕ) × (n < length text) × Appends old new (take n text)
