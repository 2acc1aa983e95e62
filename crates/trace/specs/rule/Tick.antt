-- What a tick line adds to the lines before it: each check is made over the whole line before the next.
use Rattle.std.specs.Prelude.{ℕ, ⊤, ◌-◌, ◌&&◌, Bool, true, List, length, nat_lt, nat_le}
use Rattle.std.specs.Prelude.{slice_get, Option, Some, None, option_and_then, if◌then◌else◌, Result, Ok, Err, codes}
use Rattle.quantity.specs.rule.Duration.{end_of_time}
use Rattle.serde_json.specs.Data.{Data}
use Rattle.serde_json.specs.Find.{as_number, as_u64}
use Rattle.json_fields.specs.rule.Fields.{field_at}
use Rattle.json_fields.specs.rule.Reading.{◌>>=◌, refused_if}
use Rattle.line_faults.specs.declared.fault.FaultKind.{FaultKind}
use Rattle.line_faults.specs.declared.fault.FaultKind.TheVariants.{TooMany, Moment, Doubled, Backwards, ExitCode}
use Rattle.observations.specs.declared.tick.TickObs.{TickObs}
use Rattle.observations.specs.rule.Limits.{most_ticks}
use Rattle.tick_lines.specs.declared.line.TickLine.{TickLine}
use Rattle.trace.specs.declared.placing.PlacedEntry.{PlacedEntry}
use Rattle.trace.specs.rule.TraceSoFar.{TraceSoFar, heeds, with_tick}
use Rattle.trace.specs.rule.Written.{tick_line_in}
use Rattle.trace.specs.rule.Placing.{placed_of, is_doubled}
use Rattle.trace.specs.rule.Observed.{observed, some_code_missing}
use Rattle.following.specs.rule.Backwards.{is_backwards}

abbrev pub is_later : Option TickObs → ℕ → Bool
is_later None at = true
is_later (Some tick) at = nat_lt tick.at at

abbrev pub moment_from : List TickObs → Option ℕ → Result ℕ FaultKind
moment_from ticks None = Err Moment
moment_from ticks (Some at) = if nat_lt at end_of_time && is_later (slice_get ticks (length ticks - 1)) at then Ok at
    else Err Moment

-- a moment before the end of time, later than the last tick's
abbrev pub moment_of : List TickObs → Option Data → Result ℕ FaultKind
moment_of ticks found = moment_from ticks (option_and_then as_u64 (option_and_then as_number found))

-- the moment of a tick line
abbrev pub moment_in : List TickObs → Data → Result ℕ FaultKind
moment_in ticks d = moment_of ticks (field_at (codes "at") d)

-- there is room for one tick more
abbrev pub room_for_tick : List TickObs → Result ⊤ FaultKind
room_for_tick ticks = refused_if (nat_le most_ticks (length ticks)) TooMany

-- the tick that the line shows with its entries placed, after the ticks before it
unfoldable pub observed_in : TraceSoFar → ℕ → TickLine → List PlacedEntry → Result TickObs FaultKind
observed_in past at written placed = do
  apart ← refused_if (is_doubled placed) Doubled
  forwards ← refused_if (is_backwards past.ticks (observed (heeds past) at written placed past.roll)) Backwards
  coded ← refused_if (some_code_missing placed) ExitCode
  Ok (observed (heeds past) at written placed past.roll)

-- the tick of a tick line that follows what is past
unfoldable pub tick_in : TraceSoFar → Data → Result TickObs FaultKind
tick_in past d = do
  room ← room_for_tick past.ticks
  at ← moment_in past.ticks d
  written ← tick_line_in (heeds past) d
  placed ← placed_of (heeds past) past.roll written.entries
  observed_in past at written placed

unfoldable pub tick_at : TraceSoFar → Data → Result TraceSoFar FaultKind
tick_at past d = do
  tick ← tick_in past d
  Ok (with_tick past tick)
