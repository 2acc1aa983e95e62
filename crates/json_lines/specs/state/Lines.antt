-- The content of a line by itself, whatever the lines before it have.
use Rattle.std.specs.Prelude.{◌≡◌, ℕ, ◌||◌, Bool, List, length, nat_lt, Option, Some, None, Result}
use Rattle.std.specs.Prelude.{option_and_then}
use Rattle.std.specs.Prelude.{if◌then◌else◌}
use Rattle.json.specs.Json.{Json as JsonTree, value, if_last}
use Rattle.json.specs.Lex.{tokens}
use Rattle.json.specs.Token.{Token}
use Rattle.json_fields.specs.state.Tape.{data_at}
use Rattle.serde_json.specs.Data.{Data}
use Rattle.serde_json.specs.Read.{max_depth}
use Rattle.serde_json.specs.View.{view}
use Rattle.tick_lines.specs.declared.fault.TickLineFault.{TickLineFault}
use Rattle.tick_lines.specs.declared.line.TickLine.{TickLine}
use Rattle.tick_lines.specs.rule.Line.{tick_line_of}
use Rattle.json_lines.specs.state.Ticks.{is_tick, moment_at}
use Rattle.json_lines.specs.declared.line.TextLine.{TextLine}
use Rattle.json_lines.specs.declared.line.TextLine.TheVariants as text_lines
use Rattle.json_lines.specs.rule.Lines.{longest_line, is_blank, json_in}

-- the one value of a text that `json` reads, as deep as serde_json reads
abbrev pub line_value : List ℕ → Option JsonTree
line_value text = option_and_then (λ p. if_last p.0 p.1) (value max_depth (tokens text))

-- the content of a line by itself
pub data LineData : Type 0 where
  Blank : LineData
  TooLong : LineData
  NotJson : LineData
  -- a tick's moment, and the rest of its line
  Tick : Option ℕ → Result TickLine TickLineFault → LineData
  Json : Data → LineData

-- the content of a JSON value by itself
unfoldable pub said_by : Data → LineData
said_by d = if is_tick d then Tick (moment_at d) (tick_line_of d) else Json d

abbrev pub said_or_not : Option Data → LineData
said_or_not None = NotJson
said_or_not (Some d) = said_by d

-- the content of a line that is not blank and not too long
abbrev pub said_in : List ℕ → LineData
said_in line = said_or_not (json_in line)

abbrev pub line_data : List ℕ → LineData
line_data line =
    if is_blank line then Blank
    else (if nat_lt longest_line (length line) then TooLong else said_in line)

-- a line that is not read: one of blanks alone, or one that is too long
abbrev pub is_unread : List ℕ → Bool
is_unread line = is_blank line || nat_lt longest_line (length line)

-- a line is the tick that is on this tape
abbrev pub SaysTickOn : LineData → List Token → Type 0
SaysTickOn said tape = said ≡ Tick (moment_at (data_at tape)) (tick_line_of (data_at tape))

-- what was read of a line, as the line's content
abbrev pub data_of : TextLine → LineData
data_of text_lines.Blank = Blank
data_of text_lines.TooLong = TooLong
data_of text_lines.NotJson = NotJson
data_of (text_lines.Tick tick) = Tick tick.at tick.written
data_of (text_lines.Json value) = Json (view value)
