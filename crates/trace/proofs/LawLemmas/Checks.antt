-- A line's fault is that of its first check that fails.
use Rattle.std.proofs.Common.{◌≡◌, ◌≢◌, ◌∙◌, ◌⊎◌, ℕ, ◌≤◌, ◌<◌, Bool, true, false, List, [], ◌∷◌, length, Option, Some}
use Rattle.std.proofs.Common.{None, Result, Ok, Err, refl, ap, sym, subst, inl, inr, arith, is_some}
use Rattle.std.specs.Prelude.{⊤, nat_lt, nat_le, option_map, IsSomeAnd, codes}
use Rattle.std.proofs.lemmas.Bool.{ltb-true, ltb-false, lt-ltb, le-ltb, leb-true, leb-false, le-leb, lt-leb}
use Rattle.serde_json.specs.Data.{Data}
use Rattle.json_fields.specs.rule.Fields.{field_at, text_at}
use Rattle.json_fields.specs.rule.Reading.{◌>>=◌, refused_if}
use Rattle.json_fields.proofs.Only.{no_fault, same_fault}
use Rattle.json_fields.proofs.Steps.{bind_err, then_ok}
use Rattle.manifest.specs.declared.pod.PodSpec.{PodSpec}
use Rattle.line_faults.specs.declared.fault.FaultKind.{FaultKind}
use Rattle.line_faults.specs.declared.fault.FaultKind.TheVariants.{TooLong, UnknownKind, Order, TooMany, DuplicatePod}
use Rattle.line_faults.specs.declared.fault.FaultKind.TheVariants.{Doubled, Backwards, ExitCode, StrangerPod}
use Rattle.node_config.specs.declared.node.NodeConfig.{NodeConfig}
use Rattle.node_config.specs.declared.node.Version.{Version}
use Rattle.node_config.specs.declared.node.Version.TheVariants.{One, Two, Three}
use Rattle.trace.specs.declared.trace_so_far.LineKind.{LineKind}
use Rattle.trace.specs.declared.trace_so_far.LineKind.TheVariants as kinds
use Rattle.observations.specs.declared.tick.TickObs.{TickObs}
use Rattle.observations.specs.rule.Limits.{most_pods, most_ticks}
use Rattle.tick_lines.specs.declared.line.TickLine.{TickLine}
use Rattle.trace.specs.declared.placing.PlacedEntry.{PlacedEntry}
use Rattle.json_lines.specs.rule.Lines.{longest_line}
use Rattle.trace.specs.rule.Written.{node_in, tick_line_in}
use Rattle.roster.specs.rule.Roll.{key_of_pod}
use Rattle.trace.specs.rule.Pod.{has_key, pod_of_line, named_in}
use Rattle.trace.proofs.Whole.{with_kind, with_json, with_tick_seen, with_places, with_written, with_moment}
use Rattle.trace.proofs.Whole.{with_room, with_code, with_forwards, with_apart, pod_new, pod_said, pod_read}
use Rattle.trace.proofs.Whole.{pod_early, gone_named, gone_whole, tick_whole, pod_whole, line_whole}
use Rattle.trace.proofs.Versions.{no_node, some_node}
use Rattle.trace.proofs.Keys.{key_there, there_key}
use Rattle.trace.specs.rule.Placing.{placed_of, is_doubled}
use Rattle.trace.specs.rule.Observed.{observed, some_code_missing}
use Rattle.following.specs.rule.Backwards.{is_backwards}
use Rattle.trace.specs.rule.TraceSoFar.{TraceSoFar, version_in, heeds, of_node, with_pod, without, with_tick}
use Rattle.trace.specs.rule.Tick.{moment_of, observed_in, tick_at}
use Rattle.trace.specs.rule.Trace.{json_of, kind_from, with_node, is_late, pod_line_at, gone_line_at, in_order}
use Rattle.trace.specs.rule.Trace.{line_at}
use Rattle.trace.specs.state.Laws.{IsJson, IsOfKind, TakesPods, MayStand, Stands, HasPod, HasMoment, HasWritten}
use Rattle.trace.specs.state.Laws.{HasPlaces, IsApart, IsForwards, Fails, too_long, not_json, unknown_kind, misplaced}
use Rattle.trace.specs.state.Laws.{wrong_node}
use Rattle.trace.specs.state.Laws.{many_pods, wrong_pod, duplicate_pod, nobody_gone, many_ticks, wrong_moment}
use Rattle.trace.specs.state.Laws.{wrong_field, stranger, doubled, backwards, no_code, FirstCheck}

pub then_err : {A B E : Type 0} (r : Result A E) (f : A → Result B E) (fault : E) → r ≡ Err fault
    → (r >>= f) ≡ Err fault
then_err r f fault e = rw e refl

pub passed : {B E : Type 0} (b : Bool) (fault : E) (f : ⊤ → Result B E) → b ≡ false → (refused_if b fault >>= f) ≡ f tt
passed b fault f e = rw e refl

failed : {B E : Type 0} (b : Bool) (fault : E) (f : ⊤ → Result B E) → b ≡ true → (refused_if b fault >>= f) ≡ Err fault
failed b fault f e = rw e refl

-- a test either refuses, or what follows it does
tested : {B E : Type 0} (b : Bool) (fault : E) (f : ⊤ → Result B E) (given : E)
    → (refused_if b fault >>= f) ≡ Err given → ((b ≡ true) × (fault ≡ given)) ⊎ ((b ≡ false) × (f tt ≡ Err given))
tested true fault f given e = let is : fault ≡ given = cc in inl (refl, is)
tested false fault f given e = inr (refl, e)

abbrev pub PodStands : TraceSoFar → Option Version → Type 0
PodStands past found = IsSomeAnd found (TakesPods past.ticks)

none_in : {A : Type 0} (xs : List A) → nat_lt 0 (length xs) ≡ false → xs ≡ []
none_in [] e = refl
none_in (x ∷ xs) e = let le = ltb-false 0 (length (x ∷ xs)) e in absurd (omega arith)

some_in : {A : Type 0} (xs : List A) → nat_lt 0 (length xs) ≡ true → xs ≢ []
some_in [] e is = let lt = ltb-true 0 0 e in absurd (omega arith)
some_in (x ∷ xs) e is = absurd (cc)

in_some : {A : Type 0} (xs : List A) → xs ≢ [] → nat_lt 0 (length xs) ≡ true
in_some [] some = absurd (some refl)
in_some (x ∷ xs) some = lt-ltb 0 (length (x ∷ xs)) (omega arith)

in_none : {A : Type 0} (xs : List A) → xs ≡ [] → nat_lt 0 (length xs) ≡ false
in_none xs none = rw none refl

-- whether the version takes a pod line behind these ticks
pub takes_pods : (version : Version) (ticks : List TickObs) → is_late version ticks ≡ false → TakesPods ticks version
takes_pods One ticks e = none_in ticks e
takes_pods Two ticks e = tt
takes_pods Three ticks e = tt

too_late : (version : Version) (ticks : List TickObs) → is_late version ticks ≡ true → TakesPods ticks version → ⊥
too_late One ticks e none = some_in ticks e none
too_late Two ticks e may = absurd (cc)
too_late Three ticks e may = absurd (cc)

in_time : (version : Version) (ticks : List TickObs) → TakesPods ticks version → is_late version ticks ≡ false
in_time One ticks none = in_none ticks none
in_time Two ticks may = refl
in_time Three ticks may = refl

comes_late : (version : Version) (ticks : List TickObs) → (TakesPods ticks version → ⊥) → is_late version ticks ≡ true
comes_late One ticks never = in_some ticks never
comes_late Two ticks never = absurd (never tt)
comes_late Three ticks never = absurd (never tt)

-- from a fault to the check that fails
code_fails : (past : TraceSoFar) (line : List ℕ) (d : Data) (at : ℕ) (written : TickLine) (placed : List PlacedEntry)
    (kind : FaultKind) → IsForwards past line d at written placed → with_forwards past at written placed tt ≡ Err kind
    → Fails past line kind
code_fails past line d at written placed kind is e =
    elim (tested (some_code_missing placed) ExitCode (with_code past at written placed) kind e) [
      | inl here ↦ subst (λ (k : FaultKind). Fails past line k) here.1 (no_code d at written placed is here.0)
      | inr later ↦ absurd (no_fault (observed (heeds past) at written placed past.roll) kind later.1)
    ]

order_fails : (past : TraceSoFar) (line : List ℕ) (d : Data) (at : ℕ) (written : TickLine) (placed : List PlacedEntry)
    (kind : FaultKind) → IsApart past line d at written placed → with_apart past at written placed tt ≡ Err kind
    → Fails past line kind
order_fails past line d at written placed kind is e =
    elim (tested (is_backwards past.ticks (observed (heeds past) at written placed past.roll)) Backwards
    (with_forwards past at written placed) kind e) [
      | inl here ↦ subst (λ (k : FaultKind). Fails past line k) here.1 (backwards d at written placed is here.0)
      | inr later ↦ code_fails past line d at written placed kind (record { is_apart = is; forwards = later.0 }) later.1
    ]

observed_fails : (past : TraceSoFar) (line : List ℕ) (d : Data) (at : ℕ) (written : TickLine)
    (placed : List PlacedEntry)
    (kind : FaultKind) → HasPlaces past line d at written placed → observed_in past at written placed ≡ Err kind
    → Fails past line kind
unfolding observed_in
observed_fails past line d at written placed kind is e =
    elim (tested (is_doubled placed) Doubled (with_apart past at written placed) kind e) [
      | inl here ↦ subst (λ (k : FaultKind). Fails past line k) here.1 (doubled d at written placed is here.0)
      | inr later ↦ order_fails past line d at written placed kind (record { has_places = is; apart = later.0 }) later.1
    ]

places_fails : (past : TraceSoFar) (line : List ℕ) (d : Data) (at : ℕ) (written : TickLine) (placed : List PlacedEntry)
    (kind : FaultKind) → HasPlaces past line d at written placed → with_places past at written placed ≡ Err kind
    → Fails past line kind
places_fails past line d at written placed kind is e =
    elim (bind_err (observed_in past at written placed) (with_tick_seen past) kind e) [
      | inl here ↦ observed_fails past line d at written placed kind is here
      | inr later ↦ absurd (no_fault (with_tick past later.0) kind later.2)
    ]

written_fails : (past : TraceSoFar) (line : List ℕ) (d : Data) (at : ℕ) (written : TickLine) (kind : FaultKind)
    → HasWritten past line d at written → with_written past at written ≡ Err kind → Fails past line kind
written_fails past line d at written kind is e =
    elim (bind_err (placed_of (heeds past) past.roll written.entries) (with_places past at written) kind e) [
      | inl here ↦ stranger d at written kind is here
      | inr later ↦ places_fails past line d at written later.0 kind (record { has_written = is; placed_are = later.1 })
          later.2
    ]

moment_fails : (past : TraceSoFar) (line : List ℕ) (d : Data) (at : ℕ) (kind : FaultKind) → HasMoment past line d at
    → with_moment past d at ≡ Err kind → Fails past line kind
moment_fails past line d at kind is e = elim (bind_err (tick_line_in (heeds past) d) (with_written past at) kind e) [
  | inl here ↦ wrong_field d at kind is here
  | inr later ↦ written_fails past line d at later.0 kind (record { has_moment = is; written_is = later.1 }) later.2
]

room_fails : (past : TraceSoFar) (line : List ℕ) (d : Data) (kind : FaultKind) → Stands past line kinds.Tick d
    → length past.ticks < most_ticks → with_room past d tt ≡ Err kind → Fails past line kind
room_fails past line d kind is room e =
    elim (bind_err (moment_of past.ticks (field_at (codes "at") d)) (with_moment past d) kind e) [
      | inl here ↦ wrong_moment d kind is room here
      | inr later ↦ moment_fails past line d later.0 kind (record { stands = is; room = room; moment = later.1 })
          later.2
    ]

tick_fails : (past : TraceSoFar) (line : List ℕ) (d : Data) (kind : FaultKind) → Stands past line kinds.Tick d
    → tick_at past d ≡ Err kind → Fails past line kind
tick_fails past line d kind is e =
    elim (tested (nat_le most_ticks (length past.ticks)) TooMany (with_room past d) kind
    (sym (tick_whole past d) ∙ e)) [
      | inl here ↦ subst (λ (k : FaultKind). Fails past line k) here.1
          (many_ticks d is (leb-true most_ticks (length past.ticks) here.0))
      | inr later ↦ room_fails past line d kind is (leb-false most_ticks (length past.ticks) later.0) later.1
    ]

said_fails : (past : TraceSoFar) (line : List ℕ) (d : Data) (pod : PodSpec) (kind : FaultKind) → HasPod past line d pod
    → pod_said past pod ≡ Err kind → Fails past line kind
said_fails past line d pod kind is e =
    elim (tested (has_key past.roll (key_of_pod pod)) DuplicatePod (pod_new past pod) kind e) [
      | inl here ↦ subst (λ (k : FaultKind). Fails past line k) here.1
          (duplicate_pod d pod is (key_there past.roll (key_of_pod pod) here.0))
      | inr later ↦ absurd (no_fault (with_pod past pod) kind later.1)
    ]

read_fails : (past : TraceSoFar) (line : List ℕ) (d : Data) (kind : FaultKind) → Stands past line kinds.Pod d
    → length past.roll.pods < most_pods → pod_read past d tt ≡ Err kind → Fails past line kind
read_fails past line d kind is room e = elim (bind_err (pod_of_line (heeds past) d) (pod_said past) kind e) [
  | inl here ↦ wrong_pod d kind is room here
  | inr later ↦ said_fails past line d later.0 kind (record { stands = is; room = room; pod_is = later.1 }) later.2
]

early_fails : (past : TraceSoFar) (line : List ℕ) (d : Data) (kind : FaultKind) → Stands past line kinds.Pod d
    → pod_early past d tt ≡ Err kind → Fails past line kind
early_fails past line d kind is e =
    elim (tested (nat_le most_pods (length past.roll.pods)) TooMany (pod_read past d) kind e) [
      | inl here ↦ subst (λ (k : FaultKind). Fails past line k) here.1
          (many_pods d is (leb-true most_pods (length past.roll.pods) here.0))
      | inr later ↦ read_fails past line d kind is (leb-false most_pods (length past.roll.pods) later.0) later.1
    ]

pod_fails : (version : Version) (past : TraceSoFar) (line : List ℕ) (d : Data) (kind : FaultKind)
    → version_in past ≡ Some version → IsOfKind past line kinds.Pod d → pod_line_at version past d ≡ Err kind
    → Fails past line kind
pod_fails version past line d kind some is e =
    elim (tested (is_late version past.ticks) Order (pod_early past d) kind (sym (pod_whole version past d) ∙ e)) [
      | inl here ↦ subst (λ (k : FaultKind). Fails past line k) here.1
          (misplaced kinds.Pod d is (λ may. too_late version past.ticks here.0 (subst (PodStands past) some may)))
      | inr later ↦ early_fails past line d kind
          (record { of_kind = is; here = subst (PodStands past) (sym some) (takes_pods version past.ticks later.0) })
          later.1
    ]

node_fails : (past : TraceSoFar) (line : List ℕ) (d : Data) (kind : FaultKind) → Stands past line kinds.Node d
    → with_node past d ≡ Err kind → Fails past line kind
unfolding with_node
node_fails past line d kind is e =
    let said : NodeConfig → Result TraceSoFar FaultKind = λ node. Ok (of_node past node) in
    elim (bind_err (node_in past.format d) said kind e) [
      | inl here ↦ wrong_node d kind is here
      | inr later ↦ absurd (no_fault (of_node past later.0) kind later.2)
    ]

named_fails : (past : TraceSoFar) (line : List ℕ) (d : Data) (named : Option ℕ) (kind : FaultKind)
    → Stands past line kinds.Gone d → named_in past.roll (text_at (codes "pod") d) ≡ named
    → gone_named past named ≡ Err kind → Fails past line kind
named_fails past line d None kind is none e =
    subst (λ (k : FaultKind). Fails past line k) (same_fault {A = TraceSoFar} StrangerPod kind e)
    (nobody_gone d is none)
named_fails past line d (Some number) kind is named e = absurd (no_fault (without past number) kind e)

gone_fails : (past : TraceSoFar) (line : List ℕ) (d : Data) (kind : FaultKind) → Stands past line kinds.Gone d
    → gone_line_at past d ≡ Err kind → Fails past line kind
gone_fails past line d kind is e =
    named_fails past line d (named_in past.roll (text_at (codes "pod") d)) kind is refl (sym (gone_whole past d) ∙ e)

not_some : (node : Option NodeConfig) → node ≡ None → is_some node ≡ true → ⊥
not_some None none some = absurd (cc)
not_some (Some node) none some = absurd (cc)

place_fails : (found : Option Version) (past : TraceSoFar) (line : List ℕ) (line_kind : LineKind) (d : Data)
    (kind : FaultKind) → version_in past ≡ found → IsOfKind past line line_kind d
    → in_order found past line_kind d ≡ Err kind → Fails past line kind
place_fails None past line kinds.Node d kind none is e =
    node_fails past line d kind (record { of_kind = is; here = no_node past.node none }) e
place_fails None past line kinds.Pod d kind none is e =
    subst (λ (k : FaultKind). Fails past line k) (same_fault {A = TraceSoFar} Order kind e)
    (misplaced kinds.Pod d is (λ may. subst (PodStands past) none may))
place_fails None past line kinds.Tick d kind none is e =
    subst (λ (k : FaultKind). Fails past line k) (same_fault {A = TraceSoFar} Order kind e)
    (misplaced kinds.Tick d is (λ may. not_some past.node (no_node past.node none) may))
place_fails None past line kinds.Gone d kind none is e =
    subst (λ (k : FaultKind). Fails past line k) (same_fault {A = TraceSoFar} Order kind e)
    (misplaced kinds.Gone d is (λ may. not_some past.node (no_node past.node none) may))
place_fails (Some version) past line kinds.Node d kind some is e =
    subst (λ (k : FaultKind). Fails past line k) (same_fault {A = TraceSoFar} Order kind e)
    (misplaced kinds.Node d is (λ may. not_some past.node may (some_node past.node version some)))
place_fails (Some version) past line kinds.Pod d kind some is e = pod_fails version past line d kind some is e
place_fails (Some version) past line kinds.Tick d kind some is e =
    tick_fails past line d kind (record { of_kind = is; here = some_node past.node version some }) e
place_fails (Some version) past line kinds.Gone d kind some is e =
    gone_fails past line d kind (record { of_kind = is; here = some_node past.node version some }) e

kind_fails : (past : TraceSoFar) (line : List ℕ) (d : Data) (found : Option LineKind) (kind : FaultKind) → IsJson line d
    → kind_from (version_in past) (text_at (codes "kind") d) ≡ found → with_kind past d found ≡ Err kind
    → Fails past line kind
kind_fails past line d None kind is found e =
    subst (λ (k : FaultKind). Fails past line k) (same_fault {A = TraceSoFar} UnknownKind kind e)
    (unknown_kind d is found)
kind_fails past line d (Some line_kind) kind is found e =
    place_fails (version_in past) past line line_kind d kind refl (record { json = is; kind = found }) e

json_fails : (past : TraceSoFar) (line : List ℕ) (kind : FaultKind) → length line ≤ longest_line
    → (json_of line >>= with_json past) ≡ Err kind → Fails past line kind
json_fails past line kind short e = elim (bind_err (json_of line) (with_json past) kind e) [
  | inl here ↦ not_json kind short here
  | inr later ↦ kind_fails past line later.0 (kind_from (version_in past) (text_at (codes "kind") later.0)) kind
      (record { short = short; json = later.1 }) refl later.2
]

pub line_fails : (past : TraceSoFar) (line : List ℕ) (kind : FaultKind) → line_at past line ≡ Err kind
    → Fails past line kind
line_fails past line kind e =
    elim (tested (nat_lt longest_line (length line)) TooLong (λ u. json_of line >>= with_json past) kind
    (sym (line_whole past line) ∙ e)) [
      | inl here ↦ subst (λ (k : FaultKind). Fails past line k) here.1
          (too_long (ltb-true longest_line (length line) here.0))
      | inr later ↦ json_fails past line kind (ltb-false longest_line (length line) later.0) later.1
    ]

-- from a check that fails to the fault
of_short : (past : TraceSoFar) (line : List ℕ) → length line ≤ longest_line
    → line_at past line ≡ (json_of line >>= with_json past)
of_short past line short = line_whole past line
    ∙ passed (nat_lt longest_line (length line)) TooLong (λ u. json_of line >>= with_json past)
    (le-ltb longest_line (length line) short)

of_long : (past : TraceSoFar) (line : List ℕ) → longest_line < length line → line_at past line ≡ Err TooLong
of_long past line long = line_whole past line
    ∙ failed (nat_lt longest_line (length line)) TooLong (λ u. json_of line >>= with_json past)
    (lt-ltb longest_line (length line) long)

of_json : (past : TraceSoFar) (line : List ℕ) (d : Data) → IsJson line d → line_at past line ≡ with_json past d
of_json past line d is = of_short past line is.short ∙ then_ok (json_of line) (with_json past) d is.json

pub of_kind : (past : TraceSoFar) (line : List ℕ) (line_kind : LineKind) (d : Data) → IsOfKind past line line_kind d
    → line_at past line ≡ in_order (version_in past) past line_kind d
of_kind past line line_kind d is =
    of_json past line d is.json ∙ ap (λ (found : Option LineKind). with_kind past d found) is.kind

misplaced_kind : (found : Option Version) (past : TraceSoFar) (line_kind : LineKind) (d : Data)
    → version_in past ≡ found
    → (MayStand past line_kind → ⊥) → in_order found past line_kind d ≡ Err Order
misplaced_kind None past kinds.Node d none never = absurd (never (no_node past.node none))
misplaced_kind None past kinds.Pod d none never = refl
misplaced_kind None past kinds.Tick d none never = refl
misplaced_kind None past kinds.Gone d none never = refl
misplaced_kind (Some version) past kinds.Node d some never = refl
misplaced_kind (Some version) past kinds.Pod d some never =
    let late = comes_late version past.ticks (λ may. never (subst (PodStands past) (sym some) may)) in
    pod_whole version past d ∙ failed (is_late version past.ticks) Order (pod_early past d) late
misplaced_kind (Some version) past kinds.Tick d some never = absurd (never (some_node past.node version some))
misplaced_kind (Some version) past kinds.Gone d some never = absurd (never (some_node past.node version some))

pub node_in_order : (node : Option NodeConfig) (past : TraceSoFar) (d : Data) → node ≡ None
    → in_order (option_map (λ (n : NodeConfig). n.version) node) past kinds.Node d ≡ with_node past d
node_in_order None past d is = refl
node_in_order (Some node) past d is = absurd (cc)

pod_in_order : (found : Option Version) (past : TraceSoFar) (d : Data) → PodStands past found
    → in_order found past kinds.Pod d ≡ pod_early past d tt
pod_in_order None past d may = absurd may
pod_in_order (Some version) past d may =
    pod_whole version past d
    ∙ passed (is_late version past.ticks) Order (pod_early past d) (in_time version past.ticks may)

tick_in_order : (node : Option NodeConfig) (past : TraceSoFar) (d : Data) → is_some node ≡ true
    → in_order (option_map (λ (n : NodeConfig). n.version) node) past kinds.Tick d ≡ tick_at past d
tick_in_order None past d is = absurd (cc)
tick_in_order (Some node) past d is = refl

gone_in_order : (node : Option NodeConfig) (past : TraceSoFar) (d : Data) → is_some node ≡ true
    → in_order (option_map (λ (n : NodeConfig). n.version) node) past kinds.Gone d ≡ gone_line_at past d
gone_in_order None past d is = absurd (cc)
gone_in_order (Some node) past d is = refl

of_wrong_node : (past : TraceSoFar) (line : List ℕ) (d : Data) (kind : FaultKind) → Stands past line kinds.Node d
    → node_in past.format d ≡ Err kind → line_at past line ≡ Err kind
unfolding with_node
of_wrong_node past line d kind is e =
    let said : NodeConfig → Result TraceSoFar FaultKind = λ node. Ok (of_node past node) in
    of_kind past line kinds.Node d is.of_kind ∙ node_in_order past.node past d is.here
    ∙ then_err (node_in past.format d) said kind e

of_pod : (past : TraceSoFar) (line : List ℕ) (d : Data) → Stands past line kinds.Pod d
    → line_at past line ≡ pod_early past d tt
of_pod past line d is = of_kind past line kinds.Pod d is.of_kind ∙ pod_in_order (version_in past) past d is.here

of_pod_room : (past : TraceSoFar) (line : List ℕ) (d : Data) → Stands past line kinds.Pod d
    → length past.roll.pods < most_pods → line_at past line ≡ pod_read past d tt
of_pod_room past line d is room =
    of_pod past line d is ∙ passed (nat_le most_pods (length past.roll.pods)) TooMany (pod_read past d)
    (lt-leb most_pods (length past.roll.pods) room)

pub of_pod_said : (past : TraceSoFar) (line : List ℕ) (d : Data) (pod : PodSpec) → HasPod past line d pod
    → line_at past line ≡ pod_said past pod
of_pod_said past line d pod is = of_pod_room past line d is.stands is.room
    ∙ then_ok (pod_of_line (heeds past) d) (pod_said past) pod is.pod_is

pub of_gone : (past : TraceSoFar) (line : List ℕ) (d : Data) → Stands past line kinds.Gone d
    → line_at past line ≡ gone_named past (named_in past.roll (text_at (codes "pod") d))
of_gone past line d is = of_kind past line kinds.Gone d is.of_kind ∙ gone_in_order past.node past d is.here
    ∙ gone_whole past d

of_tick : (past : TraceSoFar) (line : List ℕ) (d : Data) → Stands past line kinds.Tick d
    → line_at past line ≡ (refused_if (nat_le most_ticks (length past.ticks)) TooMany >>= with_room past d)
of_tick past line d is = of_kind past line kinds.Tick d is.of_kind ∙ tick_in_order past.node past d is.here
    ∙ tick_whole past d

of_room : (past : TraceSoFar) (line : List ℕ) (d : Data) → Stands past line kinds.Tick d
    → length past.ticks < most_ticks
    → line_at past line ≡ with_room past d tt
of_room past line d is room = of_tick past line d is
    ∙ passed (nat_le most_ticks (length past.ticks)) TooMany (with_room past d)
    (lt-leb most_ticks (length past.ticks) room)

of_moment : (past : TraceSoFar) (line : List ℕ) (d : Data) (at : ℕ) → HasMoment past line d at
    → line_at past line ≡ with_moment past d at
of_moment past line d at is = of_room past line d is.stands is.room
    ∙ then_ok (moment_of past.ticks (field_at (codes "at") d)) (with_moment past d) at is.moment

of_written : (past : TraceSoFar) (line : List ℕ) (d : Data) (at : ℕ) (written : TickLine)
    → HasWritten past line d at written → line_at past line ≡ with_written past at written
of_written past line d at written is = of_moment past line d at is.has_moment
    ∙ then_ok (tick_line_in (heeds past) d) (with_written past at) written is.written_is

pub of_places : (past : TraceSoFar) (line : List ℕ) (d : Data) (at : ℕ) (written : TickLine) (placed : List PlacedEntry)
    → HasPlaces past line d at written placed → line_at past line ≡ with_places past at written placed
of_places past line d at written placed is = of_written past line d at written is.has_written
    ∙ then_ok (placed_of (heeds past) past.roll written.entries) (with_places past at written) placed is.placed_are

of_observed : (past : TraceSoFar) (line : List ℕ) (d : Data) (at : ℕ) (written : TickLine) (placed : List PlacedEntry)
    (kind : FaultKind) → HasPlaces past line d at written placed
    → (refused_if (is_doubled placed) Doubled >>= with_apart past at written placed) ≡ Err kind
    → line_at past line ≡ Err kind
unfolding observed_in
of_observed past line d at written placed kind is e = of_places past line d at written placed is
    ∙ then_err (observed_in past at written placed) (with_tick_seen past) kind e

of_apart : (past : TraceSoFar) (line : List ℕ) (d : Data) (at : ℕ) (written : TickLine) (placed : List PlacedEntry)
    (kind : FaultKind) → IsApart past line d at written placed
    → with_apart past at written placed tt ≡ Err kind → line_at past line ≡ Err kind
of_apart past line d at written placed kind is e =
    of_observed past line d at written placed kind is.has_places
    (passed (is_doubled placed) Doubled (with_apart past at written placed) is.apart ∙ e)

of_forwards : (past : TraceSoFar) (line : List ℕ) (d : Data) (at : ℕ) (written : TickLine) (placed : List PlacedEntry)
    (kind : FaultKind) → IsForwards past line d at written placed
    → with_forwards past at written placed tt ≡ Err kind → line_at past line ≡ Err kind
of_forwards past line d at written placed kind is e =
    of_apart past line d at written placed kind is.is_apart
    (passed (is_backwards past.ticks (observed (heeds past) at written placed past.roll)) Backwards
    (with_forwards past at written placed) is.forwards ∙ e)

fails_line : (past : TraceSoFar) (line : List ℕ) (kind : FaultKind) → Fails past line kind
    → line_at past line ≡ Err kind
fails_line past line _ (too_long long) = of_long past line long
fails_line past line _ (not_json kind short e) =
    of_short past line short ∙ then_err (json_of line) (with_json past) kind e
fails_line past line _ (unknown_kind d is none) =
    of_json past line d is ∙ ap (λ (found : Option LineKind). with_kind past d found) none
fails_line past line _ (misplaced line_kind d is never) = of_kind past line line_kind d is
    ∙ misplaced_kind (version_in past) past line_kind d refl never
fails_line past line _ (wrong_node d kind is e) = of_wrong_node past line d kind is e
fails_line past line _ (many_pods d is many) =
    of_pod past line d is ∙ failed (nat_le most_pods (length past.roll.pods)) TooMany (pod_read past d)
    (le-leb most_pods (length past.roll.pods) many)
fails_line past line _ (wrong_pod d kind is room e) = of_pod_room past line d is room
    ∙ then_err (pod_of_line (heeds past) d) (pod_said past) kind e
fails_line past line _ (duplicate_pod d pod is known) = of_pod_said past line d pod is
    ∙ failed (has_key past.roll (key_of_pod pod)) DuplicatePod (pod_new past pod)
    (there_key past.roll (key_of_pod pod) known)
fails_line past line _ (nobody_gone d is none) = of_gone past line d is ∙ ap (gone_named past) none
fails_line past line _ (many_ticks d is many) =
    of_tick past line d is ∙ failed (nat_le most_ticks (length past.ticks)) TooMany (with_room past d)
    (le-leb most_ticks (length past.ticks) many)
fails_line past line _ (wrong_moment d kind is room e) =
    of_room past line d is room ∙ then_err (moment_of past.ticks (field_at (codes "at") d)) (with_moment past d) kind e
fails_line past line _ (wrong_field d at kind is e) =
    of_moment past line d at is ∙ then_err (tick_line_in (heeds past) d) (with_written past at) kind e
fails_line past line _ (stranger d at written kind is e) = of_written past line d at written is
    ∙ then_err (placed_of (heeds past) past.roll written.entries) (with_places past at written) kind e
fails_line past line _ (doubled d at written placed is twice) =
    of_observed past line d at written placed Doubled is
    (failed (is_doubled placed) Doubled (with_apart past at written placed) twice)
fails_line past line _ (backwards d at written placed is back) =
    of_apart past line d at written placed Backwards is
    (failed (is_backwards past.ticks (observed (heeds past) at written placed past.roll)) Backwards
    (with_forwards past at written placed) back)
fails_line past line _ (no_code d at written placed is missing) =
    of_forwards past line d at written placed ExitCode is
    (failed (some_code_missing placed) ExitCode (with_code past at written placed) missing)

pub first_check : FirstCheck
first_check past line kind = (line_fails past line kind, fails_line past line kind)
