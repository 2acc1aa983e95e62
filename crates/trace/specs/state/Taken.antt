-- What lines add to what is past, from what was read of each by itself.
use Rattle.std.specs.Prelude.{ℕ, ◌+◌, List, [], ◌∷◌, Option, Result, Ok, Err}
use Rattle.serde_json.specs.Data.{Data}
use Rattle.json_fields.specs.rule.Reading.{◌>>=◌}
use Rattle.json_lines.specs.state.Lines.{LineData, Blank, TooLong, NotJson, Tick, Json}
use Rattle.observations.specs.declared.tick.TickObs.{TickObs}
use Rattle.tick_lines.specs.declared.fault.TickLineFault.{TickLineFault}
use Rattle.tick_lines.specs.declared.line.TickLine.{TickLine}
use Rattle.line_faults.specs.declared.fault.FaultKind.{FaultKind}
use Rattle.line_faults.specs.declared.fault.FaultKind.TheVariants as kinds
use Rattle.line_faults.specs.declared.fault.LineFault.{LineFault}
use Rattle.trace.specs.declared.trace_so_far.LineKind.TheVariants as line_kinds
use Rattle.trace.specs.rule.TraceSoFar.{TraceSoFar, version_in, heeds, with_tick}
use Rattle.trace.specs.declared.placing.PlacedEntry.{PlacedEntry}
use Rattle.trace.specs.rule.Placing.{placed_of}
use Rattle.trace.specs.rule.Tick.{moment_from, room_for_tick, observed_in}
use Rattle.trace.specs.rule.Trace.{kind_of_line, turn_of, in_order, at_line}
use Rattle.trace.specs.rule.Written.{written_in}

-- a JSON value that follows what is past
unfoldable pub value_at : TraceSoFar → Data → Result TraceSoFar FaultKind
value_at past d = kind_of_line (version_in past) d >>= λ line_kind. in_order (version_in past) past line_kind d

-- the entries of such a tick line, of known pods and containers
unfoldable pub placed_at : TraceSoFar → Option ℕ → Result TickLine TickLineFault → Result (List PlacedEntry) FaultKind
placed_at past moment said = do
  room ← room_for_tick past.ticks
  at ← moment_from past.ticks moment
  written ← written_in (heeds past) said
  placed_of (heeds past) past.roll written.entries

-- the tick of a line with this moment and this content, which follows what is past
unfoldable pub tick_of : TraceSoFar → Option ℕ → Result TickLine TickLineFault → Result TickObs FaultKind
tick_of past moment said = do
  room ← room_for_tick past.ticks
  at ← moment_from past.ticks moment
  written ← written_in (heeds past) said
  placed ← placed_of (heeds past) past.roll written.entries
  observed_in past at written placed

unfoldable pub tick_after : TraceSoFar → Option ℕ → Result TickLine TickLineFault → Result TraceSoFar FaultKind
tick_after past moment said = do
  tick ← tick_of past moment said
  Ok (with_tick past tick)

-- a tick line may follow a node line
abbrev pub tick_line_at : TraceSoFar → Option ℕ → Result TickLine TickLineFault → Result TraceSoFar FaultKind
tick_line_at past moment said =
    turn_of (version_in past) line_kinds.Tick >>= λ turn. tick_after past moment said

-- a line that follows what is past; a blank one adds nothing
abbrev pub any_line_at : TraceSoFar → LineData → Result TraceSoFar FaultKind
any_line_at past Blank = Ok past
any_line_at past TooLong = Err kinds.TooLong
any_line_at past NotJson = Err kinds.NotJson
any_line_at past (Tick moment said) = tick_line_at past moment said
any_line_at past (Json d) = value_at past d

-- lines that follow what is past, the first of which has this number
abbrev pub lines_at : ℕ → TraceSoFar → List LineData → Result TraceSoFar LineFault
lines_at n past [] = Ok past
lines_at n past (line ∷ lines) = at_line n (any_line_at past line) >>= λ next. lines_at (n + 1) next lines
