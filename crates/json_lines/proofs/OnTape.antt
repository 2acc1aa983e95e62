-- A tick line on a tape that fits is what serde_json reads of it.
use Rattle.std.proofs.Common.{◌≡◌, ◌∙◌, List, [], ℕ, ◌≤◌, true, Option, Some, None, IsSome, option_and_then}
use Rattle.std.proofs.Common.{refl, sym, ap}
use Rattle.std.proofs.lemmas.List.{append-nil}
use Rattle.std.specs.Str.{IsUtf8}
use Rattle.json.specs.Json.{Json, document, if_last, value}
use Rattle.json.specs.Lex.{tokens}
use Rattle.json.specs.Token.{Token}
use Rattle.json.specs.Tree.{json_tokens, depth}
use Rattle.json.proofs.Printed.Trees.{value-json_tokens}
use Rattle.json.proofs.Unique.Spelling.{tokens-document}
use Rattle.serde_json.specs.Read.{max_depth}
use Rattle.json_fields.specs.state.Borrowed.{data_of}
use Rattle.json_fields.specs.state.Tape.{data_at, fits}
use Rattle.json_fields.proofs.Fitting.{fits-json}
use Rattle.json_fields.proofs.OnTape.{data_of_tokens}
use Rattle.tick_lines.specs.rule.Line.{tick_line_of}
use Rattle.json_lines.specs.state.Lines.{Tick, said_in}
use Rattle.json_lines.specs.state.Ticks.{is_tick, moment_at}
use Rattle.json_lines.proofs.Said.{plain_said}

there_is : (o : Option Json) → IsSome o → (j : Json) × (o ≡ Some j)
there_is (Some j) some = (j, refl)
there_is None some = absurd (cc)

ended : (j : Json) (ts : List Token) (room : ℕ) → depth j ≤ room → ts ≡ json_tokens j
    → option_and_then (λ p. if_last p.0 p.1) (value room ts) ≡ Some j
ended j ts room le is =
    ap (λ us. option_and_then (λ p. if_last p.0 p.1) (value room us)) (is ∙ sym (append-nil (json_tokens j)))
    ∙ ap (option_and_then (λ p. if_last p.0 p.1)) (value-json_tokens j room [] le)

pub tape_said : (line : List ℕ) → IsUtf8 line → IsSome (document line) → fits max_depth (tokens line) ≡ true
    → is_tick (data_at (tokens line)) ≡ true
    → said_in line ≡ Tick (moment_at (data_at (tokens line))) (tick_line_of (data_at (tokens line)))
tape_said line utf8 some fit tick =
    let found = there_is (document line) some in
    let spelled : tokens line ≡ json_tokens found.0 = tokens-document line found.0 found.1 in
    let whole = spelled ∙ sym (append-nil (json_tokens found.0)) in
    let f = fits-json found.0 max_depth [] (ap (fits max_depth) (sym whole) ∙ fit) in
    let data_is : data_at (tokens line) ≡ data_of found.0 = ap data_at whole ∙ data_of_tokens found.0 [] in
    rw data_is
    (plain_said line found.0 utf8 (ended found.0 (tokens line) max_depth f.1 spelled) f.0
    (ap is_tick (sym data_is) ∙ tick))
