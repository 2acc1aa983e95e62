-- A text whose lines are taken by what each says by itself.
use Rattle.std.proofs.Common.{◌≡◌, ◌∙◌, ℕ, zero, suc, ◌+◌, ◌≤◌, false, List, [], ◌∷◌, ◌++◌, drop, length, map, nat_lt}
use Rattle.std.proofs.Common.{Option, Some, None, Result, Ok, Err, refl, ap, sym, subst, inl, inr, true, arith}
use Rattle.std.proofs.lemmas.List.{length-map}
use Rattle.std.specs.List.{prefix_len}
use Rattle.std.specs.Prelude.{MatchBool}
use Rattle.std.proofs.lemmas.Bool.{cases_Bool}
use Rattle.serde_json.specs.Data.{Data}
use Rattle.json_fields.specs.rule.Reading.{◌>>=◌, some_or}
use Rattle.std.proofs.lemmas.Slice.Eq.{bytes_eq-Decides}
use Rattle.std.specs.Prelude.{codes}
use Rattle.json_fields.specs.rule.Fields.{text_at}
use Rattle.json_lines.specs.rule.Lines.{is_blank, json_in, lines_of, longest_line}
use Rattle.json_lines.specs.state.Lines.{LineData, said_by, said_or_not, line_data}
use Rattle.json_lines.specs.state.Ticks.{is_tick_kind, is_tick, moment_at}
use Rattle.node_config.specs.declared.node.Format.{Format}
use Rattle.node_config.specs.declared.node.Version.{Version}
use Rattle.tick_lines.specs.declared.fault.TickLineFault.{TickLineFault}
use Rattle.tick_lines.specs.declared.line.TickLine.{TickLine}
use Rattle.tick_lines.specs.rule.Line.{tick_line_of}
use Rattle.line_faults.specs.declared.fault.FaultKind.{FaultKind}
use Rattle.line_faults.specs.declared.fault.FaultKind.TheVariants.{UnknownKind}
use Rattle.line_faults.specs.declared.fault.LineFault.{LineFault}
use Rattle.trace.specs.declared.trace_so_far.LineKind.{LineKind}
use Rattle.trace.specs.declared.trace_so_far.Trace.{Trace}
use Rattle.trace.specs.state.Memory.{is_memory}
use Rattle.trace.specs.rule.TraceSoFar.{TraceSoFar, version_in}
use Rattle.trace.specs.declared.trace_so_far.LineKind.TheVariants as line_kinds
use Rattle.trace.specs.state.Taken.{tick_of, tick_after, value_at, any_line_at, lines_at}
use Rattle.trace.specs.rule.Tick.{tick_in, tick_at}
use Rattle.trace.specs.rule.Trace.{json_of, kind_from, kind_of_line, turn_of, in_order, kind_and_value, line_at}
use Rattle.trace.specs.rule.Trace.{at_line, finished, read_on, nothing, trace_of}

-- the rest of a text, by what each line says by itself
abbrev pub read_data : ℕ → TraceSoFar → List LineData → Result Trace LineFault
read_data n past [] = finished n past past.node
read_data n past (line ∷ lines) = at_line n (any_line_at past line) >>= λ next. read_data (n + 1) next lines

-- a step, where what comes behind it is the same
then_same : {A B E : Type 0} (r : Result A E) (f g : A → Result B E) → ((x : A) → f x ≡ g x) → (r >>= f) ≡ (r >>= g)
then_same (Ok x) f g same = same x
then_same (Err e) f g same = refl

then_then : {A B C E : Type 0} (r : Result A E) (f : A → Result B E) (g : B → Result C E)
    → ((r >>= f) >>= g) ≡ (r >>= λ x. f x >>= g)
then_then (Ok x) f g = refl
then_then (Err e) f g = refl

abbrev paired : Data → LineKind → Result (LineKind × Data) FaultKind
paired d line_kind = Ok (line_kind, d)

abbrev in_place : TraceSoFar → (LineKind × Data) → Result TraceSoFar FaultKind
in_place past said = in_order (version_in past) past said.0 said.1

kind_taken : (past : TraceSoFar) (d : Data) (line_kind : Result LineKind FaultKind)
    → (line_kind >>= paired d >>= in_place past) ≡ (line_kind >>= λ k. in_order (version_in past) past k d)
kind_taken past d (Ok k) = refl
kind_taken past d (Err e) = refl

-- a tick line says the same by its record and by its JSON value
by_value : (past : TraceSoFar) (d : Data) → tick_after past (moment_at d) (tick_line_of d) ≡ tick_at past d
unfolding tick_at tick_in tick_after tick_of
by_value past d = refl

pub of_value : (past : TraceSoFar) (d : Data) (moment : Option ℕ) (said : Result TickLine TickLineFault)
    → moment ≡ moment_at d → said ≡ tick_line_of d → tick_after past moment said ≡ tick_at past d
of_value past d moment said at written =
    ap (λ (m : Option ℕ). tick_after past m said) at
    ∙ ap (λ (s : Result TickLine TickLineFault). tick_after past (moment_at d) s) written ∙ by_value past d

-- in the place of a line whose kind is this text
abbrev named : TraceSoFar → Data → Option Version → Option (List ℕ) → Result TraceSoFar FaultKind
named past d version kind =
    some_or UnknownKind (kind_from version kind) >>= λ line_kind. in_order version past line_kind d

abbrev by_record : TraceSoFar → Data → Option Version → Result TraceSoFar FaultKind
by_record past d version =
    turn_of version line_kinds.Tick >>= λ turn. tick_after past (moment_at d) (tick_line_of d)

tick_named : (past : TraceSoFar) (d : Data) (version : Option Version)
    → by_record past d version ≡ named past d version (Some (codes "tick"))
tick_named past d None = refl
tick_named past d (Some version) = by_value past d

tick_taken : (past : TraceSoFar) (d : Data) (version : Option Version) (kind : Option (List ℕ))
    → is_tick_kind kind ≡ true → by_record past d version ≡ named past d version kind
tick_taken past d version None tick = absurd (cc)
tick_taken past d version (Some kind) tick =
    let is : kind ≡ codes "tick" = (bytes_eq-Decides kind (codes "tick")).0 tick in
    subst (λ (k : List ℕ). by_record past d version ≡ named past d version (Some k)) (sym is)
    (tick_named past d version)

value_said : (past : TraceSoFar) (d : Data) → any_line_at past (said_by d) ≡ value_at past d
unfolding said_by value_at
value_said past d = elim (cases_Bool (is_tick d)) [
  | inl tick ↦ rw tick (tick_taken past d (version_in past) (text_at (codes "kind") d) tick)
  | inr other ↦ rw other refl
]

value_taken : (past : TraceSoFar) (line : List ℕ) (found : Option Data) → json_in line ≡ found
    → nat_lt longest_line (length line) ≡ false → any_line_at past (said_or_not found) ≡ line_at past line
unfolding json_of kind_and_value line_at value_at
value_taken past line None here short = rw (short, here) refl
value_taken past line (Some d) here short =
    let kind : value_at past d ≡ line_at past line =
    rw (short, here) (sym (kind_taken past d (kind_of_line (version_in past) d))) in
    value_said past d ∙ kind

line_taken : (past : TraceSoFar) (line : List ℕ) → is_blank line ≡ false
    → any_line_at past (line_data line) ≡ line_at past line
unfolding kind_and_value line_at
line_taken past line counts = elim (cases_Bool (nat_lt longest_line (length line))) [
  | inl long ↦ rw (counts, long) refl
  | inr short ↦
      let json : line_data line ≡ said_or_not (json_in line) = rw (counts, short) refl in
      ap (any_line_at past) json ∙ value_taken past line (json_in line) refl short
]

pub read_taken : (n : ℕ) (past : TraceSoFar) (lines : List (List ℕ))
    → read_on n past lines ≡ read_data n past (map line_data lines)
read_taken n past [] = refl
read_taken n past (line ∷ lines) = elim (cases_Bool (is_blank line)) [
  | inl blank ↦ rw blank (read_taken (n + 1) past lines)
  | inr counts ↦
      rw (line_taken past line counts, counts)
      (then_same (at_line n (line_at past line)) (λ next. read_on (n + 1) next lines)
      (λ next. read_data (n + 1) next (map line_data lines)) (λ next. read_taken (n + 1) next lines))
]

-- blank lines at the beginning say nothing
blank_skipped : (count n : ℕ) (past : TraceSoFar) (lines : List (List ℕ)) → count ≤ prefix_len is_blank lines
    → read_data (n + count) past (map line_data (drop count lines)) ≡ read_data n past (map line_data lines)
blank_skipped zero n past lines blank =
    let here : n + 0 ≡ n = omega arith in
    rw here refl
blank_skipped (suc count) n past [] blank = absurd (omega (arith, blank))
blank_skipped (suc count) n past (line ∷ lines) blank = elim (cases_Bool (is_blank line)) [
  | inl is ↦
      let all : prefix_len is_blank (line ∷ lines) ≡ 1 + prefix_len is_blank lines = rw is refl in
      let moved : n + suc count ≡ n + 1 + count = omega arith in
      rw (is, moved) (blank_skipped count (n + 1) past lines (omega (arith, all, blank)))
  | inr counts ↦
      let none : prefix_len is_blank (line ∷ lines) ≡ 0 = rw counts refl in
      absurd (omega (arith, none, blank))
]

-- lines, and those behind them
behind : (n : ℕ) (past : TraceSoFar) (lines later : List LineData)
    → read_data n past (lines ++ later) ≡ (lines_at n past lines >>= λ next. read_data (n + length lines) next later)
behind n past [] later =
    let here : n + 0 ≡ n = omega arith in
    rw here refl
behind n past (line ∷ lines) later =
    let moved : n + suc (length lines) ≡ n + 1 + length lines = omega arith in
    let step = at_line n (any_line_at past line) in
    rw moved
    (then_same step (λ next. read_data (n + 1) next (lines ++ later))
    (λ next. lines_at (n + 1) next lines >>= λ after. read_data (n + 1 + length lines) after later)
    (λ next. behind (n + 1) next lines later)
    ∙ sym (then_then step (λ next. lines_at (n + 1) next lines)
    (λ after. read_data (n + 1 + length lines) after later)))

-- a line number, what is past and a rest of the text, from which the whole text is read
abbrev pub LeadsOn : Format → List ℕ → ℕ → TraceSoFar → List ℕ → Type 0
LeadsOn format text n past rest = read_data n past (map line_data (lines_of rest)) ≡ trace_of format text

pub leads_from_start : (format : Format) (text : List ℕ) → LeadsOn format text 1 (nothing format) text
unfolding trace_of
leads_from_start format text = sym (read_taken 1 (nothing format) (lines_of text))

pub leads_behind_blanks : (format : Format) (text : List ℕ) (n : ℕ) (past : TraceSoFar) (rest later : List ℕ)
    (blanks : ℕ) → LeadsOn format text n past rest → blanks ≤ prefix_len is_blank (lines_of rest)
    → lines_of later ≡ drop blanks (lines_of rest) → LeadsOn format text (n + blanks) past later
leads_behind_blanks format text n past rest later blanks leads counted cut =
    rw cut (blank_skipped blanks n past (lines_of rest) counted ∙ leads)

pub leads_on : {A : Type 0} (view : A → LineData) (format : Format) (text : List ℕ) (n : ℕ) (past : TraceSoFar)
    (rest later : List ℕ)
    (lines : List A) (count : ℕ) (next : TraceSoFar)
    → LeadsOn format text n past rest → map line_data (lines_of rest) ≡ map view lines ++ map line_data (lines_of later)
    → lines_at n past (map view lines) ≡ Ok next → count ≡ length lines → LeadsOn format text (n + count) next later
leads_on view format text n past rest later lines count next leads cut taken counted =
    let all : n + count ≡ n + length (map view lines) = rw (length-map lines view, counted) refl in
    let whole = behind n past (map view lines) (map line_data (lines_of later)) in
    let after : (lines_at n past (map view lines)
    >>= λ next. read_data (n + length (map view lines)) next (map line_data (lines_of later)))
    ≡ read_data (n + length (map view lines)) next (map line_data (lines_of later)) = rw taken refl in
    rw all (sym after ∙ sym whole ∙ ap (read_data n past) (sym cut) ∙ leads)

pub stops : (format : Format) (text : List ℕ) (n : ℕ) (past : TraceSoFar) (rest later : List ℕ) (lines : List LineData)
    (fault : LineFault)
    → LeadsOn format text n past rest → map line_data (lines_of rest) ≡ lines ++ map line_data (lines_of later)
    → MatchBool (is_memory fault.kind) (Unit {0}) (lines_at n past lines ≡ Err fault)
    → MatchBool (is_memory fault.kind) (Unit {0}) (trace_of format text ≡ Err fault)
stops format text n past rest later lines fault leads cut taken = elim (cases_Bool (is_memory fault.kind)) [
  | inl memory ↦ rw memory tt
  | inr other ↦
      let faulty : lines_at n past lines ≡ Err fault = rw other at taken in
      let whole = behind n past lines (map line_data (lines_of later)) in
      let after : (lines_at n past lines >>= λ next. read_data (n + length lines) next (map line_data (lines_of later)))
      ≡ Err fault = rw faulty refl in
      rw other (sym leads ∙ ap (read_data n past) cut ∙ whole ∙ after)
]
