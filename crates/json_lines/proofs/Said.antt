-- A tick line whose numbers are plain is what serde_json reads of it.
use Rattle.std.proofs.Common.{◌≡◌, List, ℕ, true, Some, option_and_then, refl, sym, ap, ◌∙◌}
use Rattle.std.specs.Str.{IsUtf8}
use Rattle.json.specs.Json.{Json}
use Rattle.json_fields.proofs.Plain.{of_json_plain}
use Rattle.json_fields.specs.state.Borrowed.{data_of, is_plain}
use Rattle.serde_json.specs.Data.{Data}
use Rattle.serde_json.specs.Read.{read, of_json}
use Rattle.tick_lines.specs.rule.Line.{tick_line_of}
use Rattle.json_lines.specs.state.Lines.{Tick, line_value, said_in, said_or_not, said_by}
use Rattle.json_lines.specs.state.Ticks.{is_tick, moment_at}
use Rattle.json_lines.proofs.Found.{json_found}

tick_said : (d : Data) → is_tick d ≡ true → said_by d ≡ Tick (moment_at d) (tick_line_of d)
unfolding said_by
tick_said d tick = rw tick refl

pub plain_said : (line : List ℕ) (j : Json) → IsUtf8 line → line_value line ≡ Some j → is_plain j ≡ true
    → is_tick (data_of j) ≡ true → said_in line ≡ Tick (moment_at (data_of j)) (tick_line_of (data_of j))
plain_said line j utf8 is plain tick =
    let read_so : read line ≡ Some (data_of j) = ap (option_and_then of_json) is ∙ of_json_plain j plain in
    ap said_or_not (sym (json_found line (data_of j) utf8 read_so)) ∙ tick_said (data_of j) tick
