-- What a replay writes, and when it rejects its input.
use Rattle.std.specs.Prelude.{◌≡◌, ℕ, ◌<◌, ◌≤◌, Bool, List, [], ◌∷◌, length, take, codes, Option, Some, None, Result}
use Rattle.std.specs.Prelude.{Ok, Err}
use Rattle.std.specs.Fmt.{decimal}
use Rattle.std.specs.Io.KnownBytes.{Appends, Consumes}
use Rattle.node_config.specs.declared.node.Format.{Format}
use Rattle.node_config.specs.declared.node.Format.TheVariants.{Standard}
use Rattle.trace.specs.declared.trace_so_far.Trace.{Trace}
use Rattle.line_faults.specs.declared.fault.LineFault.{LineFault}
use Rattle.trace.specs.rule.Trace.{trace_of}
use Rattle.pod_piece.specs.rule.Piece.{Piece}
use Rattle.event_list.specs.rule.Text.{joined}
use Rattle.tick_round.specs.rule.Gated.{AreUpdatesGated}
use Rattle.kubelet_replay.specs.rule.Report.{IsReportOf}
use Rattle.kubelet_replay.specs.declared.fault.RunFault.{RunFault}
use Rattle.kubelet_replay.specs.declared.fault.RunFault.TheVariants.{Read, TooLong, Line, OutOfMemory, Write}

-- 64 MiB
abbrev pub longest_input : ℕ
longest_input = 67108864

-- the reader's calls that failed, by the answer
abbrev pub failed_reads : {V : Type 0} → Result V RunFault → ℕ
failed_reads (Err Read) = 1
failed_reads answer = 0

-- the writer's calls that failed, by the answer
abbrev pub failed_writes : {V : Type 0} → Result V RunFault → ℕ
failed_writes (Err Write) = 1
failed_writes answer = 0

-- the text is all that the reader had left, where that is known
abbrev pub IsAllOf : Option (List ℕ) → List ℕ → Type 0
IsAllOf None text = Unit {0}
IsAllOf (Some bytes) text = text ≡ bytes

-- the text is all that the reader had left, and within the limit
pub record HasRead (left : Option (List ℕ)) (text : List ℕ) : Type 0 where
  pub all : IsAllOf left text
  pub within : length text ≤ longest_input

-- the reader had more left than the limit
abbrev pub IsTooLong : Option (List ℕ) → Type 0
IsTooLong None = Unit {0}
IsTooLong (Some bytes) = longest_input < length bytes

-- the line of a trace with this many pods and ticks
abbrev pub check_line : ℕ → ℕ → List ℕ
check_line pods ticks =
    joined (codes "ok pods=" ∷ decimal pods ∷ codes " ticks=" ∷ decimal ticks ∷ codes "\n" ∷ [])

-- these bytes are the line that `check` writes of the text's trace, in a format
pub record IsCheckIn (format : Format) (text bytes : List ℕ) : Type 0 where
  pub trace : Trace
  pub is_trace : trace_of format text ≡ Ok trace
  pub line : bytes ≡ check_line (length trace.pods) (length trace.ticks)

-- these bytes are the line that `check` writes of the text's trace, in the standard format
abbrev pub IsCheckOfText : List ℕ → List ℕ → Type 0
IsCheckOfText = IsCheckIn Standard

-- these bytes are the report of the text's trace in a format
pub record IsReportIn (format : Format) (text bytes : List ℕ) : Type 0 where
  pub trace : Trace
  pub is_trace : trace_of format text ≡ Ok trace
  pub report : IsReportOf trace bytes

-- these bytes are the report of the text's trace in the standard format
abbrev pub IsReportOfText : List ℕ → List ℕ → Type 0
IsReportOfText = IsReportIn Standard

-- no more of the input was taken than the limit
abbrev pub TakesWithin : Option (List ℕ) → Option (List ℕ) → Type 0
TakesWithin old new = (front : List ℕ) × (length front ≤ longest_input) × Consumes old new front

-- what is written is what the input's text is answered, from the first byte to the last
pub record Writes (IsAnswer : List ℕ → List ℕ → Type 0) (left old new : Option (List ℕ)) : Type 0 where
  pub text : List ℕ
  pub read : HasRead left text
  pub bytes : List ℕ
  pub answer : IsAnswer text bytes
  pub written : Appends old new bytes

-- the input is a text that is rejected at its first faulty line
pub record IsFaulty (format : Format) (left : Option (List ℕ)) (fault : LineFault) : Type 0 where
  pub text : List ℕ
  pub read : HasRead left text
  pub refused : trace_of format text ≡ Err fault

-- a part of it is written, from its beginning
pub record WritesPart (IsAnswer : List ℕ → List ℕ → Type 0) (left old new : Option (List ℕ)) : Type 0 where
  pub text : List ℕ
  pub read : HasRead left text
  pub bytes : List ℕ
  pub answer : IsAnswer text bytes
  pub count : ℕ
  pub part : count < length bytes
  pub written : Appends old new (take count bytes)

-- the text is a trace, and a gate has made its updates: by each of its ticks one of each pod that it shows
pub record IsReplayGated (left : Piece → Bool → Bool) (format : Format) (text : List ℕ) : Type 0 where
  pub trace : Trace
  pub is_trace : trace_of format text ≡ Ok trace
  pub gated : AreUpdatesGated left trace.pods [] trace.ticks

-- the text of the input is a trace, and a gate has made its updates
pub record Gates (left : Piece → Bool → Bool) (format : Format) (input : Option (List ℕ)) : Type 0 where
  pub text : List ℕ
  pub read : HasRead input text
  pub gated : IsReplayGated left format text

-- what each refusal means for the input and for what is written, in a format
abbrev pub IsRefusalIn : Format → (List ℕ → List ℕ → Type 0) → Option (List ℕ) → Option (List ℕ) → Option (List ℕ)
    → RunFault → Type 0
IsRefusalIn format IsAnswer left old new Read = new ≡ old
IsRefusalIn format IsAnswer left old new TooLong = IsTooLong left × (new ≡ old)
IsRefusalIn format IsAnswer left old new (Line fault) = IsFaulty format left fault × (new ≡ old)
IsRefusalIn format IsAnswer left old new OutOfMemory = new ≡ old
IsRefusalIn format IsAnswer left old new Write = WritesPart IsAnswer left old new

-- what each refusal means for the input and for what is written, in the standard format
abbrev pub IsRefusal : (List ℕ → List ℕ → Type 0) → Option (List ℕ) → Option (List ℕ) → Option (List ℕ) → RunFault
    → Type 0
IsRefusal = IsRefusalIn Standard
