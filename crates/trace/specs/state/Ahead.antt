-- Lines that are read ahead of their turn, each with the pods that are known then.
use Rattle.std.specs.Prelude.{◌≡◌, ⊤, ℕ, Bool, false, List, Some, Result, Ok}
use Rattle.std.specs.Borrow.{Bor}
use Rattle.std.specs.List.{AllZip}
use Rattle.json_fields.specs.rule.Reading.{◌>>=◌, refused_if}
use Rattle.following.specs.rule.Backwards.{is_backwards}
use Rattle.json_lines.specs.state.Lines.{LineData, Blank, TooLong, NotJson, Tick, Json, data_of, line_data}
use Rattle.observations.specs.declared.tick.TickObs.{TickObs}
use Rattle.roster.specs.rule.Roll.{Roll}
use Rattle.tick_lines.specs.declared.line.TickLine.{TickLine}
use Rattle.trace.specs.declared.ahead.LineAhead.{LineAhead}
use Rattle.trace.specs.declared.ahead.LineAhead.TheVariants as lines_ahead
use Rattle.line_faults.specs.declared.fault.FaultKind.{FaultKind}
use Rattle.line_faults.specs.declared.fault.FaultKind.TheVariants.{Backwards}
use Rattle.trace.specs.declared.trace_so_far.LineKind.TheVariants as line_kinds
use Rattle.trace.specs.declared.placing.PlacedEntry.{PlacedEntry}
use Rattle.trace.specs.rule.Observed.{observed, some_code_missing}
use Rattle.trace.specs.rule.TraceSoFar.{TraceSoFar, version_in, heeds}
use Rattle.trace.specs.rule.Placing.{placed_of, is_doubled}
use Rattle.trace.specs.rule.Written.{heeded}
use Rattle.trace.specs.rule.Tick.{moment_from, room_for_tick}
use Rattle.trace.specs.rule.Trace.{turn_of}

-- the line shows this of these pods, with the extension's members read or not, and has no fault by itself
pub record IsShown (heeds : Bool) (roll : Roll) (said : LineData) (tick : TickObs) : Type 0 where
  pub written : TickLine
  pub placed : List PlacedEntry
  pub says : said ≡ Tick (Some tick.at) (Ok written)
  pub known : heeded heeds written ≡ Ok written
  pub places : placed_of heeds roll written.entries ≡ Ok placed
  pub apart : is_doubled placed ≡ false
  pub coded : some_code_missing placed ≡ false
  pub shows : tick ≡ observed heeds tick.at written placed roll

-- what was read of a line that has this
abbrev pub IsAhead : Bool → Roll → LineData → LineAhead → Type 0
IsAhead heeds roll said (lines_ahead.Shown tick) = IsShown heeds roll said tick
IsAhead heeds roll said (lines_ahead.Said line) = data_of line ≡ said

-- what was read of each of these lines
abbrev pub AreAhead : Bool → Roll → List (Bor (List ℕ)) → List LineAhead → Type 0
AreAhead heeds roll lines reads = AllZip (λ line read. IsAhead heeds roll (line_data line.now) read) lines reads

-- what was read with these pods, with the extension's members read or not, is still so after the lines so far
abbrev pub IsFresh : TraceSoFar → Bool → Roll → Type 0
IsFresh past heeding roll = (heeds past ≡ heeding) × (past.roll ≡ roll)

-- after such a line there are the same pods, in the same version, as before it
abbrev pub KeepsPods : LineData → Type 0
KeepsPods Blank = ⊤
KeepsPods TooLong = ⊤
KeepsPods NotJson = ⊤
KeepsPods (Tick moment said) = ⊤
KeepsPods (Json d) = ⊥

-- some line shows this of these pods
abbrev pub IsReadAhead : Bool → Roll → TickObs → Type 0
IsReadAhead heeds roll tick = (said : LineData) × IsShown heeds roll said tick

-- what is left to look at of a tick whose line was read ahead
unfoldable pub may_stand : TraceSoFar → TickObs → Result ⊤ FaultKind
may_stand past tick = do
  turn ← turn_of (version_in past) line_kinds.Tick
  room ← room_for_tick past.ticks
  at ← moment_from past.ticks (Some tick.at)
  refused_if (is_backwards past.ticks tick) Backwards
