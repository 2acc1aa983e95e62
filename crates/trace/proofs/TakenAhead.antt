-- Lines that are taken as they were read ahead.
use Rattle.std.proofs.Common.{◌≡◌, ◌∙◌, ℕ, ◌+◌, ◌<◌, List, [], ◌∷◌, ◌++◌, length, take, drop, get_or, map, IsTrue}
use Rattle.std.proofs.Common.{Bool, true, false}
use Rattle.std.proofs.Common.{Option, Some, Result, Ok, Err, OnOk, refl, ap, sym, subst, inl, inr}
use Rattle.std.specs.Borrow.{Bor}
use Rattle.std.proofs.lemmas.Bool.{cases_Bool}
use Rattle.std.proofs.lemmas.List.{take_more, drop_more}
use Rattle.std.specs.Prelude.{⊤, MatchBool, if◌then◌else◌}
use Rattle.std.specs.List.{list_any}
use Rattle.json_fields.specs.rule.Reading.{◌>>=◌, refused_if}
use Rattle.json_fields.specs.state.Reading.{GivesExactly}
use Rattle.json_fields.proofs.Only.{same_value, no_fault}
use Rattle.json_fields.proofs.Steps.{then_ok}
use Rattle.following.specs.rule.Backwards.{is_backwards}
use Rattle.following.specs.state.Followed.{EndBefore, ComesNext}
use Rattle.json_lines.specs.rule.Lines.{lines_of}
use Rattle.json_lines.specs.state.Lines.{LineData, Blank, TooLong, NotJson, Tick, Json, line_data}
use Rattle.json_lines.proofs.Windows.{window_read}
use Rattle.observations.specs.declared.tick.TickObs.{TickObs}
use Rattle.roster.specs.rule.Roll.{Roll}
use Rattle.tick_lines.specs.declared.fault.TickLineFault.{TickLineFault}
use Rattle.tick_lines.specs.declared.line.TickLine.{TickLine}
use Rattle.line_faults.specs.declared.fault.FaultKind.{FaultKind}
use Rattle.line_faults.specs.declared.fault.FaultKind.TheVariants.{Moment, Backwards}
use Rattle.line_faults.specs.declared.fault.LineFault.{LineFault}
use Rattle.trace.specs.declared.trace_so_far.LineKind.TheVariants as line_kinds
use Rattle.trace.specs.declared.trace_so_far.Turn.{Turn}
use Rattle.trace.specs.declared.placing.PlacedEntry.{PlacedEntry}
use Rattle.trace.specs.declared.ahead.LineAhead.{LineAhead}
use Rattle.trace.specs.state.Ahead.{IsShown, IsAhead, AreAhead, IsFresh, IsReadAhead, KeepsPods, may_stand}
use Rattle.trace.specs.state.Memory.{is_memory}
use Rattle.trace.specs.rule.Observed.{observed, some_code_missing}
use Rattle.trace.specs.rule.TraceSoFar.{TraceSoFar, version_in, heeds, with_tick}
use Rattle.trace.specs.rule.Placing.{placed_of, is_doubled, has_twice, are_of_one_pod, repeats}
use Rattle.trace.specs.state.Pod.{container_counts}
use Rattle.trace.specs.state.Taken.{tick_of, tick_after, tick_line_at, any_line_at, lines_at}
use Rattle.trace.specs.rule.Tick.{moment_from, room_for_tick, observed_in}
use Rattle.trace.specs.rule.Trace.{turn_of, at_line}
use Rattle.trace.specs.rule.Written.{heeded}
use Rattle.trace.proofs.Shown.{comes_next, went_on}
use Rattle.json_lines.proofs.ZippedParts.{zip_append}

abbrev seen : TraceSoFar → TickObs → Result TraceSoFar FaultKind
seen past tick = Ok (with_tick past tick)

-- the entries of the line are known, apart and coded, so only a listing that goes back is left to refuse
entries_apart : (past : TraceSoFar) (at : ℕ) (written : TickLine) (placed : List PlacedEntry)
    → is_doubled placed ≡ false → some_code_missing placed ≡ false
    → observed_in past at written placed
    ≡ (refused_if (is_backwards past.ticks (observed (heeds past) at written placed past.roll)) Backwards
    >>= λ (u : ⊤). Ok (observed (heeds past) at written placed past.roll))
unfolding observed_in
entries_apart past at written placed apart coded = rw (apart, coded) refl

-- nothing is refused of what is written
entries_shown : (past : TraceSoFar) (tick : TickObs) (written : TickLine) (placed : List PlacedEntry)
    → heeded (heeds past) written ≡ Ok written → placed_of (heeds past) past.roll written.entries ≡ Ok placed
    → is_doubled placed ≡ false → some_code_missing placed ≡ false
    → tick ≡ observed (heeds past) tick.at written placed past.roll
    → (heeded (heeds past) written
    >>= λ (w : TickLine). placed_of (heeds past) past.roll w.entries >>= observed_in past tick.at w)
    ≡ (refused_if (is_backwards past.ticks tick) Backwards >>= λ (u : ⊤). Ok tick)
entries_shown past tick written placed known places apart coded shows =
    then_ok (heeded (heeds past) written)
    (λ (w : TickLine). placed_of (heeds past) past.roll w.entries >>= observed_in past tick.at w) written known
    ∙ then_ok (placed_of (heeds past) past.roll written.entries) (observed_in past tick.at written) placed places
    ∙ subst (λ (o : TickObs). observed_in past tick.at written placed
    ≡ (refused_if (is_backwards past.ticks o) Backwards >>= λ (u : ⊤). Ok o)) (sym shows)
    (entries_apart past tick.at written placed apart coded)

steps : (turn : Result Turn FaultKind) (room : Result ⊤ FaultKind) (test back : Bool) (past : TraceSoFar)
    (tick : TickObs)
    (entries : ℕ → Result TickObs FaultKind)
    → entries tick.at ≡ (refused_if back Backwards >>= λ (u : ⊤). Ok tick)
    → (turn >>= λ (t : Turn).
    ((room >>= λ (u : ⊤). (if test then Ok tick.at else Err Moment) >>= λ (at : ℕ). entries at) >>= seen past))
    ≡ ((turn >>= λ (t : Turn). room >>= λ (u : ⊤). (if test then Ok tick.at else Err Moment) >>= λ (at : ℕ).
    refused_if back Backwards) >>= λ (u : ⊤). seen past tick)
steps (Err kind) room test back past tick entries e = refl
steps (Ok t) (Err kind) test back past tick entries e = refl
steps (Ok t) (Ok u) false back past tick entries e = refl
steps (Ok t) (Ok u) true true past tick entries e = rw e refl
steps (Ok t) (Ok u) true false past tick entries e = rw e refl

tick_taken : (past : TraceSoFar) (tick : TickObs) (written : TickLine) (placed : List PlacedEntry)
    → heeded (heeds past) written ≡ Ok written → placed_of (heeds past) past.roll written.entries ≡ Ok placed
    → is_doubled placed ≡ false → some_code_missing placed ≡ false
    → tick ≡ observed (heeds past) tick.at written placed past.roll
    → tick_line_at past (Some tick.at) (Ok written) ≡ (may_stand past tick >>= λ (u : ⊤). seen past tick)
unfolding tick_after tick_of may_stand
tick_taken past tick written placed known places apart coded shows =
    steps (turn_of (version_in past) line_kinds.Tick) (room_for_tick past.ticks) _ (is_backwards past.ticks tick)
    past tick
    (λ (at : ℕ). heeded (heeds past) written
    >>= λ (w : TickLine). placed_of (heeds past) past.roll w.entries >>= observed_in past at w)
    (entries_shown past tick written placed known places apart coded shows)

-- a line that was read ahead is taken by what is left to look at
pub shown_taken : (past : TraceSoFar) (said : LineData) (tick : TickObs) → IsShown (heeds past) past.roll said tick
    → any_line_at past said ≡ (may_stand past tick >>= λ (u : ⊤). seen past tick)
shown_taken past said tick is =
    ap (any_line_at past) is.says
    ∙ tick_taken past tick is.written is.placed is.known is.places is.apart is.coded is.shows

moment_step : (test : Bool) (n at : ℕ) (given : Result ℕ FaultKind) → given ≡ (if test then Ok n else Err Moment)
    → given ≡ Ok at → n ≡ at
moment_step true n at given is e = same_value {E = FaultKind} n at (sym is ∙ e)
moment_step false n at given is e = absurd (no_fault at Moment (sym e ∙ is))

pub moment_is : (ticks : List TickObs) (n at : ℕ) → moment_from ticks (Some n) ≡ Ok at → n ≡ at
moment_is ticks n at e = moment_step _ n at (moment_from ticks (Some n)) refl e

-- what was read ahead comes next behind ticks that end before it
pub ahead_comes_next : (heeds : Bool) (ticks : List TickObs) (roll : Roll) (tick : TickObs)
    → IsReadAhead heeds roll tick
    → EndBefore ticks tick.at → ComesNext ticks (container_counts roll.pods) tick
ahead_comes_next heeds ticks roll tick is later =
    subst (ComesNext ticks (container_counts roll.pods)) (sym is.1.shows)
    (comes_next heeds ticks tick.at is.1.written is.1.placed roll later)

-- with a tick more there are the same pods, in the same version
tick_fresh : (past next : TraceSoFar) (tick : TickObs) → with_tick past tick ≡ next
    → IsFresh next (heeds past) past.roll
tick_fresh past next tick same =
    (sym (ap (λ (p : TraceSoFar). heeds p) same), sym (ap (λ (p : TraceSoFar). p.roll) same))

step_fresh : (past next : TraceSoFar) (turn : Result Turn FaultKind) (tick : Result TickObs FaultKind)
    → (turn >>= λ (t : Turn). tick >>= seen past) ≡ Ok next → IsFresh next (heeds past) past.roll
step_fresh past next (Err kind) tick e = absurd (no_fault next kind (sym e))
step_fresh past next (Ok t) (Err kind) e = absurd (no_fault next kind (sym e))
step_fresh past next (Ok t) (Ok tick) e =
    tick_fresh past next tick (same_value {E = FaultKind} (with_tick past tick) next e)

tick_keeps : (past next : TraceSoFar) (moment : Option ℕ) (said : Result TickLine TickLineFault)
    → tick_line_at past moment said ≡ Ok next → IsFresh next (heeds past) past.roll
unfolding tick_after
tick_keeps past next moment said e =
    step_fresh past next (turn_of (version_in past) line_kinds.Tick) (tick_of past moment said) e

-- behind a line that is no node's and no pod's there are the same pods, in the same version
pub pods_kept : (past next : TraceSoFar) (said : LineData) → KeepsPods said → any_line_at past said ≡ Ok next
    → IsFresh next (heeds past) past.roll
pods_kept past next Blank keeps e =
    let same : past ≡ next = same_value {E = FaultKind} past next e in
    (sym (ap (λ (p : TraceSoFar). heeds p) same), sym (ap (λ (p : TraceSoFar). p.roll) same))
pods_kept past next TooLong keeps e = absurd (no_fault next _ (sym e))
pods_kept past next NotJson keeps e = absurd (no_fault next _ (sym e))
pods_kept past next (Tick moment said) keeps e = tick_keeps past next moment said e
pods_kept past next (Json d) keeps e = absurd keeps

pub shown_record : (heeds : Bool) (roll : Roll) (moment : Option ℕ) (said : Result TickLine TickLineFault) (at : ℕ)
    (written : TickLine) (placed : List PlacedEntry) (tick : TickObs) → moment ≡ Some at → said ≡ Ok written
    → heeded heeds written ≡ Ok written → placed_of heeds roll written.entries ≡ Ok placed
    → has_twice are_of_one_pod placed ≡ false → list_any repeats placed ≡ false → some_code_missing placed ≡ false
    → tick ≡ observed heeds at written placed roll
    → IsShown heeds roll (Tick moment said) tick
shown_record heeds roll moment said at written placed tick early spoken known places once apart coded shows =
    let here : at ≡ tick.at = sym (ap (λ (t : TickObs). t.at) shows) in
    record {
      written = written;
      placed = placed;
      says = rw (early, spoken, here) refl;
      known = known;
      places = places;
      apart = rw (once, apart) refl;
      coded = coded;
      shows = subst (λ (n : ℕ). tick ≡ observed heeds n written placed roll) here shows;
    }

-- a test that refused nothing, and what holds then
pub unless_refused : (P : Type 0) (test : Bool) (kind : FaultKind) (r : Result ⊤ FaultKind)
    → GivesExactly (λ u. u) r (refused_if test kind) → (test ≡ false → P) → OnOk r P
unless_refused P test kind (Ok u) given holds = holds (went_on test kind u given)
unless_refused P test kind (Err fault) given holds = tt

pub shown_stands : (past : TraceSoFar) (said : LineData) (tick : TickObs) (u : ⊤)
    → IsShown (heeds past) past.roll said tick
    → may_stand past tick ≡ Ok u → any_line_at past said ≡ seen past tick
shown_stands past said tick u is stands =
    shown_taken past said tick is ∙ then_ok (may_stand past tick) (λ (v : ⊤). seen past tick) u stands

then_err : {A B E : Type 0} (r : Result A E) (f : A → Result B E) (fault : E) → r ≡ Err fault → (r >>= f) ≡ Err fault
then_err r f fault e = rw e refl

pub shown_refused : (past : TraceSoFar) (said : LineData) (tick : TickObs) (kind : FaultKind)
    → IsShown (heeds past) past.roll said tick
    → may_stand past tick ≡ Err kind
    → MatchBool (is_memory kind) (Unit {0}) (any_line_at past said ≡ Err kind)
shown_refused past said tick kind is refused =
    let faulty = shown_taken past said tick is
    ∙ then_err (may_stand past tick) (λ (v : ⊤). seen past tick) kind refused in
    elim (cases_Bool (is_memory kind)) [
      | inl memory ↦ rw memory tt
      | inr other ↦ rw other faulty
    ]

-- one line more was read
pub one_more_read : (heeds : Bool) (roll : Roll) (lines : List (Bor (List ℕ))) (i : ℕ) (d : Bor (List ℕ))
    (before after : List LineAhead) (read : LineAhead) → i < length lines
    → AreAhead heeds roll (take i lines) before → IsAhead heeds roll (line_data (get_or lines i d).now) read
    → after ≡ before ++ read ∷ [] → AreAhead heeds roll (take (i + 1) lines) after
one_more_read heeds roll lines i d before after read lt so_far one same =
    subst (AreAhead heeds roll (take (i + 1) lines)) (sym same)
    (subst (λ (ls : List (Bor (List ℕ))). AreAhead heeds roll ls (before ++ read ∷ []))
    (sym (take_more lines i d lt))
    (zip_append (λ l r. IsAhead heeds roll (line_data l.now) r) (take i lines) (get_or lines i d ∷ []) before
    (read ∷ []) so_far (one, tt)))

-- what is said of the lines of a text, once they are cut
pub window_cut : (text rest : List ℕ) (lines : List (Bor (List ℕ)))
    → lines_of text ≡ map (λ line. line.now) lines ++ lines_of rest
    → map line_data (lines_of text) ≡ map (λ line. line_data line.now) lines ++ map line_data (lines_of rest)
window_cut text rest lines cut =
    window_read line_data (λ (line : Bor (List ℕ)). line.now) lines (lines_of text) (lines_of rest)
    (map (λ line. line_data line.now) lines) cut refl

abbrev said_in_turn : List (Bor (List ℕ)) → List LineData
said_in_turn lines = map (λ line. line_data line.now) lines

-- a line is taken, and the others are behind it
pub turn_taken : (heeding : Bool) (roll : Roll) (start : Result TraceSoFar LineFault)
    (lines : List (Bor (List ℕ))) (i n : ℕ)
    (d : Bor (List ℕ)) (past next : TraceSoFar) (before after : List LineAhead) (read : LineAhead) (fresh stays : Bool)
    → i < length lines → lines_at n past (said_in_turn (drop i lines)) ≡ start
    → AreAhead heeding roll (drop i lines) before → before ≡ read ∷ after
    → (IsTrue fresh → IsFresh past heeding roll)
    → at_line n (any_line_at past (line_data (get_or lines i d).now)) ≡ Ok next
    → (IsTrue stays → IsTrue fresh × IsFresh next (heeds past) past.roll)
    → (lines_at (n + 1) next (said_in_turn (drop (i + 1) lines)) ≡ start)
    × AreAhead heeding roll (drop (i + 1) lines) after × (IsTrue stays → IsFresh next heeding roll)
turn_taken heeding roll start lines i n d past next before after read fresh stays lt from ahead same kept taken stay =
    let cut = drop_more lines i d lt in
    let both = subst (λ (ls : List (Bor (List ℕ))). AreAhead heeding roll ls (read ∷ after)) cut
    (subst (AreAhead heeding roll (drop i lines)) same ahead) in
    let whole = subst (λ (ls : List (Bor (List ℕ))). lines_at n past (said_in_turn ls) ≡ start) cut from in (
      sym (then_ok (at_line n (any_line_at past (line_data (get_or lines i d).now)))
          (λ (p : TraceSoFar). lines_at (n + 1) p (said_in_turn (drop (i + 1) lines))) next taken) ∙ whole,
      both.1,
      (λ e. let both = stay e in
          let was = kept both.0 in
          (both.1.0 ∙ was.0, both.1.1 ∙ was.1)),
    )

-- a blank line says nothing, and the others are behind it
pub blank_passed : (heeding : Bool) (roll : Roll) (start : Result TraceSoFar LineFault)
    (lines : List (Bor (List ℕ))) (i n : ℕ)
    (d : Bor (List ℕ)) (past : TraceSoFar) (before after : List LineAhead) (read : LineAhead) → i < length lines
    → lines_at n past (said_in_turn (drop i lines)) ≡ start → AreAhead heeding roll (drop i lines) before
    → before ≡ read ∷ after → line_data (get_or lines i d).now ≡ Blank
    → (lines_at (n + 1) past (said_in_turn (drop (i + 1) lines)) ≡ start)
    × AreAhead heeding roll (drop (i + 1) lines) after
blank_passed heeding roll start lines i n d past before after read lt from ahead same blank =
    let taken : at_line n (any_line_at past (line_data (get_or lines i d).now)) ≡ Ok past = rw blank refl in
    let turn = turn_taken heeding roll start lines i n d past past before after read false false lt from ahead same
    (λ e. absurd (cc)) taken (λ e. absurd (cc)) in
    (turn.0, turn.1)

pub first_ahead : (heeds : Bool) (roll : Roll) (lines : List (Bor (List ℕ))) (i : ℕ) (d : Bor (List ℕ))
    (before after : List LineAhead) (read : LineAhead) → i < length lines
    → AreAhead heeds roll (drop i lines) before → before ≡ read ∷ after
    → IsAhead heeds roll (line_data (get_or lines i d).now) read
first_ahead heeds roll lines i d before after read lt ahead same =
    (subst (λ (ls : List (Bor (List ℕ))). AreAhead heeds roll ls (read ∷ after)) (drop_more lines i d lt)
    (subst (AreAhead heeds roll (drop i lines)) same ahead)).0

-- a line has what was read of it
pub none_missing : (heeds : Bool) (roll : Roll) (lines : List (Bor (List ℕ))) (i : ℕ) (d : Bor (List ℕ))
    (before : List LineAhead)
    → i < length lines → AreAhead heeds roll (drop i lines) before → before ≡ [] → ⊥
none_missing heeds roll lines i d before lt ahead none =
    subst (λ (ls : List (Bor (List ℕ))). AreAhead heeds roll ls []) (drop_more lines i d lt)
    (subst (AreAhead heeds roll (drop i lines)) none ahead)

pub turn_refused : (start : Result TraceSoFar LineFault) (lines : List (Bor (List ℕ))) (i n : ℕ)
    (d : Bor (List ℕ)) (past : TraceSoFar) (fault : LineFault) → i < length lines
    → lines_at n past (said_in_turn (drop i lines)) ≡ start
    → MatchBool (is_memory fault.kind) (Unit {0})
    (at_line n (any_line_at past (line_data (get_or lines i d).now)) ≡ Err fault)
    → MatchBool (is_memory fault.kind) (Unit {0}) (start ≡ Err fault)
turn_refused start lines i n d past fault lt from refused =
    let line = get_or lines i d in
    let whole = subst (λ (ls : List (Bor (List ℕ))). lines_at n past (said_in_turn ls) ≡ start) (drop_more lines i d lt)
    from in
    elim (cases_Bool (is_memory fault.kind)) [
      | inl memory ↦ rw memory tt
      | inr other ↦
          let faulty : at_line n (any_line_at past (line_data line.now)) ≡ Err fault = rw other at refused in
          rw other (sym whole ∙ then_err (at_line n (any_line_at past (line_data line.now)))
          (λ (p : TraceSoFar). lines_at (n + 1) p (said_in_turn (drop (i + 1) lines))) fault faulty)
    ]
