-- A line without a fault says its node, its pod, that a pod is gone, or its tick.
use Rattle.std.proofs.Common.{◌≡◌, ◌∙◌, ℕ, Bool, true, false, List, length, Option, Some}
use Rattle.std.proofs.Common.{None, Result, Ok, refl, ap, sym, subst}
use Rattle.std.specs.Prelude.{⊤, nat_lt, nat_le, codes}
use Rattle.std.proofs.lemmas.Bool.{ltb-false, leb-false}
use Rattle.serde_json.specs.Data.{Data}
use Rattle.json_fields.specs.rule.Fields.{field_at, text_at}
use Rattle.json_fields.specs.rule.Reading.{◌>>=◌, refused_if}
use Rattle.json_fields.proofs.Steps.{bind_ok, then_ok}
use Rattle.json_fields.proofs.Only.{same_value, no_fault}
use Rattle.trace.proofs.Whole.{with_kind, with_json, with_tick_seen, with_places, with_written, with_moment}
use Rattle.trace.proofs.Whole.{with_room, with_code, with_forwards, with_apart, pod_new, pod_said, pod_read}
use Rattle.trace.proofs.Whole.{pod_early, gone_named, gone_whole, tick_whole, pod_whole, line_whole}
use Rattle.line_faults.specs.declared.fault.FaultKind.{FaultKind}
use Rattle.line_faults.specs.declared.fault.FaultKind.TheVariants.{TooLong, UnknownKind, Order, TooMany, DuplicatePod}
use Rattle.line_faults.specs.declared.fault.FaultKind.TheVariants.{Doubled, Backwards, ExitCode, StrangerPod}
use Rattle.node_config.specs.declared.node.NodeConfig.{NodeConfig}
use Rattle.node_config.specs.declared.node.Version.{Version}
use Rattle.trace.specs.declared.trace_so_far.LineKind.{LineKind}
use Rattle.trace.specs.declared.trace_so_far.LineKind.TheVariants as kinds
use Rattle.observations.specs.declared.tick.TickObs.{TickObs}
use Rattle.observations.specs.rule.Limits.{most_pods, most_ticks}
use Rattle.tick_lines.specs.declared.line.TickLine.{TickLine}
use Rattle.trace.specs.declared.placing.PlacedEntry.{PlacedEntry}
use Rattle.json_lines.specs.rule.Lines.{longest_line}
use Rattle.trace.specs.rule.Written.{node_in, tick_line_in}
use Rattle.roster.specs.rule.Roll.{key_of_pod}
use Rattle.trace.specs.rule.Pod.{has_key, pod_of_line, named_in}
use Rattle.trace.proofs.Versions.{no_node, some_node}
use Rattle.trace.proofs.Keys.{key_nowhere, nowhere_key}
use Rattle.trace.specs.rule.Placing.{placed_of, is_doubled}
use Rattle.trace.specs.rule.Observed.{observed, some_code_missing}
use Rattle.following.specs.rule.Backwards.{is_backwards}
use Rattle.trace.specs.rule.TraceSoFar.{TraceSoFar, version_in, heeds, of_node, with_pod, without, with_tick}
use Rattle.trace.specs.rule.Tick.{moment_of, observed_in, tick_at}
use Rattle.trace.specs.rule.Trace.{json_of, kind_from, with_node, is_late, pod_line_at, gone_line_at, in_order}
use Rattle.trace.specs.rule.Trace.{line_at}
use Rattle.trace.specs.state.Laws.{IsJson, IsOfKind, Stands, HasPod, HasMoment, HasWritten, HasPlaces}
use Rattle.trace.specs.state.Laws.{IsApart, IsForwards, Says, says_node, says_pod, says_gone, says_tick, AllChecks}
use Rattle.trace.proofs.LawLemmas.Checks.{PodStands, node_in_order, of_kind, of_gone, of_places, of_pod_said}
use Rattle.trace.proofs.LawLemmas.Checks.{passed, takes_pods}

-- a test that refuses nothing, and what follows it
cleared : {B E : Type 0} (b : Bool) (fault : E) (f : ⊤ → Result B E) (y : B) → (refused_if b fault >>= f) ≡ Ok y
    → (b ≡ false) × (f tt ≡ Ok y)
cleared true fault f y e = absurd (cc)
cleared false fault f y e = (refl, e)

-- from what a line leaves to what it says
tick_says : (past : TraceSoFar) (line : List ℕ) (d : Data) (next : TraceSoFar) → Stands past line kinds.Tick d
    → tick_at past d ≡ Ok next → Says past line next
unfolding observed_in
tick_says past line d next is e =
    let room = cleared (nat_le most_ticks (length past.ticks)) TooMany (with_room past d) next
    (sym (tick_whole past d) ∙ e) in
    let at = bind_ok (moment_of past.ticks (field_at (codes "at") d)) (with_moment past d) next room.1 in
    let written = bind_ok (tick_line_in (heeds past) d) (with_written past at.0) next at.2 in
    let placed = bind_ok (placed_of (heeds past) past.roll written.0.entries)
    (with_places past at.0 written.0) next written.2 in
    let tick = bind_ok (observed_in past at.0 written.0 placed.0) (with_tick_seen past) next placed.2 in
    let apart = cleared (is_doubled placed.0) Doubled (with_apart past at.0 written.0 placed.0) tick.0 tick.1 in
    let forwards = cleared (is_backwards past.ticks (observed (heeds past) at.0 written.0 placed.0 past.roll)) Backwards
    (with_forwards past at.0 written.0 placed.0) tick.0 apart.1 in
    let coded = cleared (some_code_missing placed.0) ExitCode (with_code past at.0 written.0 placed.0) tick.0
    forwards.1 in
    let is_tick : observed (heeds past) at.0 written.0 placed.0 past.roll ≡ tick.0 =
    same_value {E = FaultKind} (observed (heeds past) at.0 written.0 placed.0 past.roll) tick.0 coded.1 in
    let is_next : with_tick past tick.0 ≡ next = same_value {E = FaultKind} (with_tick past tick.0) next tick.2 in
    let has_moment : HasMoment past line d at.0 =
    record { stands = is; room = leb-false most_ticks (length past.ticks) room.0; moment = at.1 } in
    let has_written : HasWritten past line d at.0 written.0 =
    record { has_moment = has_moment; written_is = written.1 } in
    let has_places : HasPlaces past line d at.0 written.0 placed.0 =
    record { has_written = has_written; placed_are = placed.1 } in
    let is_apart : IsApart past line d at.0 written.0 placed.0 = record { has_places = has_places; apart = apart.0 } in
    let is_forwards : IsForwards past line d at.0 written.0 placed.0 =
    record { is_apart = is_apart; forwards = forwards.0 } in
    let says : Says past line (with_tick past (observed (heeds past) at.0 written.0 placed.0 past.roll)) =
    says_tick d at.0 written.0 placed.0 is_forwards coded.0 in
    subst (λ (p : TraceSoFar). Says past line p) {x = with_tick past tick.0} {y = next} is_next
    (subst (λ (t : TickObs). Says past line (with_tick past t))
    {x = observed (heeds past) at.0 written.0 placed.0 past.roll} {y = tick.0} is_tick says)

pod_says : (version : Version) (past : TraceSoFar) (line : List ℕ) (d : Data) (next : TraceSoFar)
    → version_in past ≡ Some version
    → IsOfKind past line kinds.Pod d → pod_line_at version past d ≡ Ok next → Says past line next
pod_says version past line d next some is e =
    let before = cleared (is_late version past.ticks) Order (pod_early past d) next
    (sym (pod_whole version past d) ∙ e) in
    let room = cleared (nat_le most_pods (length past.roll.pods)) TooMany (pod_read past d) next before.1 in
    let pod = bind_ok (pod_of_line (heeds past) d) (pod_said past) next room.1 in
    let new = cleared (has_key past.roll (key_of_pod pod.0)) DuplicatePod (pod_new past pod.0) next pod.2 in
    let is_next : with_pod past pod.0 ≡ next = same_value {E = FaultKind} (with_pod past pod.0) next new.1 in
    let stands : Stands past line kinds.Pod d =
    record { of_kind = is; here = subst (PodStands past) (sym some) (takes_pods version past.ticks before.0) } in
    let has_pod : HasPod past line d pod.0 =
    record { stands = stands; room = leb-false most_pods (length past.roll.pods) room.0; pod_is = pod.1 } in
    subst (λ (p : TraceSoFar). Says past line p) {x = with_pod past pod.0} is_next
    (says_pod d pod.0 has_pod (key_nowhere past.roll (key_of_pod pod.0) new.0))

node_says : (past : TraceSoFar) (line : List ℕ) (d : Data) (next : TraceSoFar) → Stands past line kinds.Node d
    → with_node past d ≡ Ok next → Says past line next
unfolding with_node
node_says past line d next is e =
    let said : NodeConfig → TraceSoFar = of_node past in
    let last : NodeConfig → Result TraceSoFar FaultKind = λ node. Ok (said node) in
    let node = bind_ok (node_in past.format d) last next e in
    let is_next : said node.0 ≡ next = same_value {E = FaultKind} (said node.0) next node.2 in
    subst (λ (p : TraceSoFar). Says past line p) {x = said node.0} is_next (says_node d node.0 is node.1)

named_says : (past : TraceSoFar) (line : List ℕ) (d : Data) (named : Option ℕ) (next : TraceSoFar)
    → Stands past line kinds.Gone d
    → named_in past.roll (text_at (codes "pod") d) ≡ named → gone_named past named ≡ Ok next → Says past line next
named_says past line d None next is named e = absurd (no_fault next StrangerPod (sym e))
named_says past line d (Some number) next is named e =
    let is_next : without past number ≡ next = same_value {E = FaultKind} (without past number) next e in
    subst (λ (p : TraceSoFar). Says past line p) {x = without past number} is_next (says_gone d number is named)

gone_says : (past : TraceSoFar) (line : List ℕ) (d : Data) (next : TraceSoFar) → Stands past line kinds.Gone d
    → gone_line_at past d ≡ Ok next → Says past line next
gone_says past line d next is e =
    named_says past line d (named_in past.roll (text_at (codes "pod") d)) next is refl (sym (gone_whole past d) ∙ e)

place_says : (found : Option Version) (past : TraceSoFar) (line : List ℕ) (line_kind : LineKind) (d : Data)
    (next : TraceSoFar)
    → version_in past ≡ found → IsOfKind past line line_kind d → in_order found past line_kind d ≡ Ok next
    → Says past line next
place_says None past line kinds.Node d next none is e =
    node_says past line d next (record { of_kind = is; here = no_node past.node none }) e
place_says None past line kinds.Pod d next none is e = absurd (no_fault next Order (sym e))
place_says None past line kinds.Tick d next none is e = absurd (no_fault next Order (sym e))
place_says None past line kinds.Gone d next none is e = absurd (no_fault next Order (sym e))
place_says (Some version) past line kinds.Node d next some is e = absurd (no_fault next Order (sym e))
place_says (Some version) past line kinds.Pod d next some is e = pod_says version past line d next some is e
place_says (Some version) past line kinds.Tick d next some is e =
    tick_says past line d next (record { of_kind = is; here = some_node past.node version some }) e
place_says (Some version) past line kinds.Gone d next some is e =
    gone_says past line d next (record { of_kind = is; here = some_node past.node version some }) e

kind_says : (past : TraceSoFar) (line : List ℕ) (d : Data) (found : Option LineKind) (next : TraceSoFar) → IsJson line d
    → kind_from (version_in past) (text_at (codes "kind") d) ≡ found → with_kind past d found ≡ Ok next
    → Says past line next
kind_says past line d None next is found e = absurd (no_fault next UnknownKind (sym e))
kind_says past line d (Some line_kind) next is found e =
    place_says (version_in past) past line line_kind d next refl (record { json = is; kind = found }) e

line_says_it : (past : TraceSoFar) (line : List ℕ) (next : TraceSoFar) → line_at past line ≡ Ok next
    → Says past line next
line_says_it past line next e =
    let short = cleared (nat_lt longest_line (length line)) TooLong (λ u. json_of line >>= with_json past) next
    (sym (line_whole past line) ∙ e) in
    let json = bind_ok (json_of line) (with_json past) next short.1 in
    let is : IsJson line json.0 = record { short = ltb-false longest_line (length line) short.0; json = json.1 } in
    kind_says past line json.0 (kind_from (version_in past) (text_at (codes "kind") json.0)) next is refl json.2

-- from what a line says to what it leaves
node_line : (past : TraceSoFar) (line : List ℕ) (d : Data) (node : NodeConfig) → Stands past line kinds.Node d
    → node_in past.format d ≡ Ok node
    → line_at past line ≡ Ok (of_node past node)
unfolding with_node
node_line past line d node is e =
    let said : NodeConfig → Result TraceSoFar FaultKind = λ node. Ok (of_node past node) in
    of_kind past line kinds.Node d is.of_kind ∙ node_in_order past.node past d is.here
    ∙ then_ok (node_in past.format d) said node e

tick_line : (past : TraceSoFar) (line : List ℕ) (d : Data) (at : ℕ) (written : TickLine) (placed : List PlacedEntry)
    → IsForwards past line d at written placed → some_code_missing placed ≡ false
    → line_at past line ≡ Ok (with_tick past (observed (heeds past) at written placed past.roll))
unfolding observed_in
tick_line past line d at written placed is coded =
    let seen = observed (heeds past) at written placed past.roll in
    let given : observed_in past at written placed ≡ Ok seen =
    passed (is_doubled placed) Doubled (with_apart past at written placed) is.is_apart.apart
    ∙ passed (is_backwards past.ticks seen) Backwards (with_forwards past at written placed) is.forwards
    ∙ passed (some_code_missing placed) ExitCode (with_code past at written placed) coded in
    of_places past line d at written placed is.is_apart.has_places
    ∙ then_ok (observed_in past at written placed) (with_tick_seen past) seen given

says_line : (past : TraceSoFar) (line : List ℕ) (next : TraceSoFar) → Says past line next → line_at past line ≡ Ok next
says_line past line _ (says_node d node is e) = node_line past line d node is e
says_line past line _ (says_pod d pod is new) =
    of_pod_said past line d pod is ∙ passed (has_key past.roll (key_of_pod pod)) DuplicatePod (pod_new past pod)
    (nowhere_key past.roll (key_of_pod pod) new)
says_line past line _ (says_gone d number is named) = of_gone past line d is ∙ ap (gone_named past) named
says_line past line _ (says_tick d at written placed is coded) = tick_line past line d at written placed is coded

pub all_checks : AllChecks
all_checks past line next = (line_says_it past line next, says_line past line next)
