-- The trace of a text is what its lines say, or its first fault.
pub mod Checks
pub mod Formats
pub mod GoingBack
pub mod Kinds
pub mod Listings
pub mod Results
pub mod Saying
pub mod Strangers
pub mod Usages
use Rattle.std.proofs.Common.{◌≡◌, ◌∙◌, ◌⊎◌, ℕ, zero, suc, ◌+◌, ◌≤◌, ◌<◌, true, false, List, [], ◌∷◌, length}
use Rattle.std.proofs.Common.{drop, get_or, slice_get, Option, Some, None, Result, Ok, Err, refl, ap, sym, subst, inl}
use Rattle.std.proofs.Common.{inr, arith, is_some, drop-cons}
use Rattle.std.specs.Prelude.{⊤, ◌-◌, nat_lt, nat_le, codes}
use Rattle.std.proofs.Math.Seq.{drop-length}
use Rattle.std.proofs.lemmas.Bool.{cases_Bool}
use Rattle.std.proofs.lemmas.Option.{slice_get_within, slice_get-get_or, get_or_from_slice_get}
use Rattle.serde_json.specs.Data.{Data}
use Rattle.json_fields.specs.rule.Fields.{field_at, text_at}
use Rattle.json_fields.specs.rule.Reading.{◌>>=◌, refused_if, some_or}
use Rattle.json_fields.proofs.Steps.{bind_ok}
use Rattle.trace.proofs.Whole.{gone_said, gone_whole, tick_whole, pod_whole, line_whole}
use Rattle.trace.proofs.Versions.{some_node}
use Rattle.manifest.specs.declared.pod.PodSpec.{PodSpec}
use Rattle.line_faults.specs.declared.fault.FaultKind.{FaultKind}
use Rattle.line_faults.specs.declared.fault.FaultKind.TheVariants.{TooLong, DuplicatePod, UnknownKind, Order, TooMany}
use Rattle.line_faults.specs.declared.fault.FaultKind.TheVariants.{StrangerPod}
use Rattle.line_faults.specs.declared.fault.LineFault.{LineFault}
use Rattle.node_config.specs.declared.node.NodeConfig.{NodeConfig}
use Rattle.trace.specs.declared.trace_so_far.Trace.{Trace}
use Rattle.trace.specs.declared.trace_so_far.LineKind.{LineKind}
use Rattle.trace.specs.declared.trace_so_far.LineKind.TheVariants as kinds
use Rattle.observations.specs.declared.tick.TickObs.{TickObs}
use Rattle.observations.specs.rule.Limits.{most_pods, most_ticks}
use Rattle.tick_lines.specs.declared.line.TickLine.{TickLine}
use Rattle.trace.specs.declared.placing.PlacedEntry.{PlacedEntry}
use Rattle.json_lines.specs.rule.Lines.{lines_of, is_blank, longest_line}
use Rattle.trace.specs.rule.Written.{node_in, tick_line_in}
use Rattle.roster.specs.rule.Roll.{roll, key_of_pod}
use Rattle.trace.specs.rule.Pod.{has_key, pod_of_line, named_in}
use Rattle.trace.specs.rule.Placing.{placed_of}
use Rattle.node_config.specs.declared.node.Format.{Format}
use Rattle.node_config.specs.declared.node.Version.{Version}
use Rattle.trace.specs.rule.TraceSoFar.{TraceSoFar, version_in, heeds, of_node, with_pod, without, with_tick}
use Rattle.trace.specs.rule.Tick.{moment_of, observed_in, tick_at}
use Rattle.trace.specs.rule.Trace.{json_of, kind_from, with_node, is_late, pod_line_at, gone_line_at, in_order}
use Rattle.trace.specs.rule.Trace.{line_at, at_line, trace_in, finished, read_on, nothing, trace_of}
use Rattle.trace.specs.state.Laws.{Leaves, AreSaid, IsFaultAt, NoneCounts, IsFirstFault, IsWhole, FirstFault}
use Rattle.trace.specs.state.Laws.{WholeTrace, OneFault}

drop_here : (lines : List (List ℕ)) (n : ℕ) (line : List ℕ) → slice_get lines n ≡ Some line
    → drop n lines ≡ line ∷ drop (suc n) lines
drop_here lines n line e =
    let cut = drop-cons lines n line (slice_get_within lines n line e) in
    let here = get_or_from_slice_get lines n line line e in
    cut ∙ ap (λ (l : List ℕ). l ∷ drop (suc n) lines) here

line_of : (n : ℕ) (before : TraceSoFar) (line : List ℕ) (rest : List (List ℕ)) → is_blank line ≡ false
    → read_on n before (line ∷ rest) ≡ (at_line n (line_at before line) >>= λ next. read_on (n + 1) next rest)
line_of n before line rest counts = rw counts refl

goes_on : (n : ℕ) (before : TraceSoFar) (line : List ℕ) (past : TraceSoFar) (rest : List (List ℕ))
    → Leaves before line past
    → read_on n before (line ∷ rest) ≡ read_on (n + 1) past rest
goes_on n before line past rest (inl blank) =
    let skipped : read_on n before (line ∷ rest) ≡ read_on (n + 1) before rest = rw blank.0 refl in
    skipped ∙ ap (λ (p : TraceSoFar). read_on (n + 1) p rest) (sym blank.1)
goes_on n before line past rest (inr counts) =
    line_of n before line rest counts.0
    ∙ ap (λ (r : Result TraceSoFar FaultKind). at_line n r >>= λ next. read_on (n + 1) next rest) counts.1

ends_at : (n : ℕ) (before : TraceSoFar) (line : List ℕ) (kind : FaultKind) (rest : List (List ℕ))
    → is_blank line ≡ false
    → line_at before line ≡ Err kind
    → read_on n before (line ∷ rest) ≡ Err (record { line = n; kind = kind })
ends_at n before line kind rest counts fails =
    line_of n before line rest counts
    ∙ ap (λ (r : Result TraceSoFar FaultKind). at_line n r >>= λ next. read_on (n + 1) next rest) fails

-- once the first n lines are read, the others are read after what those say
reaches : (format : Format) (lines : List (List ℕ)) (n : ℕ) (past : TraceSoFar) → AreSaid format lines n past
    → read_on 1 (nothing format) lines ≡ read_on (n + 1) past (drop n lines)
reaches format lines zero past said = ap (λ (p : TraceSoFar). read_on 1 p lines) (sym said)
reaches format lines (suc n) past (before, line, said, here, leaves) =
    let ones : n + 1 ≡ suc n = omega arith in
    let so_far = reaches format lines n before said in
    let cut = drop_here lines n line here in
    let next = goes_on (n + 1) before line past (drop (suc n) lines) leaves in
    so_far ∙ ap (λ (ls : List (List ℕ)). read_on (n + 1) before ls) cut ∙ next
    ∙ ap (λ (k : ℕ). read_on (k + 1) past (drop (suc n) lines)) ones

refused : (format : Format) (lines : List (List ℕ)) (n : ℕ) (kind : FaultKind) → IsFaultAt format lines n kind
    → read_on 1 (nothing format) lines ≡ Err (record { line = n + 1; kind = kind })
refused format lines n kind is =
    reaches format lines n is.past is.said ∙ ap (λ (ls : List (List ℕ)). read_on (n + 1) is.past ls)
    (drop_here lines n is.line is.here)
    ∙ ends_at (n + 1) is.past is.line kind (drop (suc n) lines) is.counts is.fails

ended : (format : Format) (lines : List (List ℕ)) (past : TraceSoFar) → AreSaid format lines (length lines) past
    → read_on 1 (nothing format) lines ≡ finished (length lines + 1) past past.node
ended format lines past said =
    reaches format lines (length lines) past said ∙ ap (λ (ls : List (List ℕ)). read_on (length lines + 1) past ls)
    (drop-length lines)

abbrev Reached : Format → List (List ℕ) → ℕ → Type 0
Reached format lines n = ((past : TraceSoFar) × AreSaid format lines n past) ⊎ ((m : ℕ) × (kind : FaultKind)
    × IsFaultAt format lines m kind)

line_says : (format : Format) (lines : List (List ℕ)) (n : ℕ) (past : TraceSoFar) (line : List ℕ)
    (said : AreSaid format lines n past)
    (here : slice_get lines n ≡ Some line)
    (counts : is_blank line ≡ false) (r : Result TraceSoFar FaultKind) → line_at past line ≡ r
    → Reached format lines (suc n)
line_says format lines n past line said here counts (Ok next) e = inl (next, (past, line, said, here, inr (counts, e)))
line_says format lines n past line said here counts (Err kind) e =
    inr (n, kind, record { past = past; line = line; said = said; here = here; counts = counts; fails = e })

-- the first n lines say something, or there is a first fault
said_or_fault : (format : Format) (lines : List (List ℕ)) (n : ℕ) → n ≤ length lines → Reached format lines n
said_or_fault format lines zero le = inl ((nothing format), refl)
said_or_fault format lines (suc n) le = elim (said_or_fault format lines n (omega arith)) [
  | inl said ↦
      let line = get_or lines n [] in
      let here : slice_get lines n ≡ Some line = slice_get-get_or lines n [] (omega arith) in
      elim (cases_Bool (is_blank line)) [
        | inl blank ↦ inl (said.0, (said.0, line, said.1, here, inl (blank, refl)))
        | inr counts ↦ line_says format lines n said.0 line said.1 here counts (line_at said.0 line) refl
      ]
  | inr fault ↦ inr fault
]

-- what a line leaves said has a node if the line counts
with_node_some : (past : TraceSoFar) (d : Data) (next : TraceSoFar) → with_node past d ≡ Ok next
    → is_some next.node ≡ true
unfolding with_node
with_node_some past d next e =
    let with : NodeConfig → TraceSoFar = of_node past in
    let last : NodeConfig → Result TraceSoFar FaultKind = λ node. Ok (with node) in
    let node = bind_ok (node_in past.format d) last next e in
    let given : Ok (with node.0) ≡ Ok next = node.2 in
    let is_next : with node.0 ≡ next = cc in
    subst (λ (p : TraceSoFar). is_some p.node ≡ true) is_next refl

pod_line_keeps : (version : Version) (past : TraceSoFar) (d : Data) (next : TraceSoFar)
    → pod_line_at version past d ≡ Ok next
    → past.node ≡ next.node
pod_line_keeps version past d next e =
    let last : PodSpec → ⊤ → Result TraceSoFar FaultKind = λ pod u. Ok (with_pod past pod) in
    let keyed : PodSpec → Result TraceSoFar FaultKind = λ pod. refused_if (has_key past.roll
    (key_of_pod pod)) DuplicatePod
    >>= last pod in
    let read : ⊤ → Result TraceSoFar FaultKind = λ u. pod_of_line (heeds past) d >>= keyed in
    let first : ⊤ → Result TraceSoFar FaultKind =
    λ u. refused_if (nat_le most_pods (length past.roll.pods)) TooMany >>= read in
    let before = bind_ok (refused_if (is_late version past.ticks) Order) first next (sym (pod_whole version past d)
    ∙ e) in
    let room = bind_ok (refused_if (nat_le most_pods (length past.roll.pods)) TooMany) read next before.2 in
    let pod = bind_ok (pod_of_line (heeds past) d) keyed next room.2 in
    let new = bind_ok (refused_if (has_key past.roll (key_of_pod pod.0)) DuplicatePod) (last pod.0) next pod.2 in
    let given : Ok (with_pod past pod.0) ≡ Ok next = new.2 in
    let is_next : with_pod past pod.0 ≡ next = cc in
    ap (λ (p : TraceSoFar). p.node) {x = with_pod past pod.0} is_next

tick_line_keeps : (past : TraceSoFar) (d : Data) (next : TraceSoFar) → tick_at past d ≡ Ok next → past.node ≡ next.node
tick_line_keeps past d next e =
    let last : TickObs → Result TraceSoFar FaultKind = λ t. Ok (with_tick past t) in
    let seen : ℕ → TickLine → List PlacedEntry → Result TraceSoFar FaultKind = λ at w ps. observed_in past at w ps
    >>= last in
    let place : ℕ → TickLine → Result TraceSoFar FaultKind =
    λ at w. placed_of (heeds past) past.roll w.entries >>= seen at w in
    let list : ℕ → Result TraceSoFar FaultKind = λ at. tick_line_in (heeds past) d >>= place at in
    let moment : ⊤ → Result TraceSoFar FaultKind = λ u. moment_of past.ticks (field_at (codes "at") d) >>= list in
    let room = bind_ok (refused_if (nat_le most_ticks (length past.ticks)) TooMany) moment next
    (sym (tick_whole past d) ∙ e) in
    let at = bind_ok (moment_of past.ticks (field_at (codes "at") d)) list next room.2 in
    let written = bind_ok (tick_line_in (heeds past) d) (place at.0) next at.2 in
    let placed = bind_ok (placed_of (heeds past) past.roll written.0.entries) (seen at.0 written.0) next written.2 in
    let tick = bind_ok (observed_in past at.0 written.0 placed.0) last next placed.2 in
    let given : Ok (with_tick past tick.0) ≡ Ok next = tick.2 in
    let is_next : with_tick past tick.0 ≡ next = cc in
    ap (λ (p : TraceSoFar). p.node) {x = with_tick past tick.0} is_next

gone_line_keeps : (past : TraceSoFar) (d : Data) (next : TraceSoFar) → gone_line_at past d ≡ Ok next
    → past.node ≡ next.node
gone_line_keeps past d next e =
    let named = named_in past.roll (text_at (codes "pod") d) in
    let number = bind_ok (some_or StrangerPod named) (gone_said past) next (sym (gone_whole past d) ∙ e) in
    let given : Ok (without past number.0) ≡ Ok next = number.2 in
    let is_next : without past number.0 ≡ next = cc in
    ap (λ (p : TraceSoFar). p.node) {x = without past number.0} is_next

in_order_some : (found : Option Version) (past : TraceSoFar) (line_kind : LineKind) (d : Data) (next : TraceSoFar)
    → version_in past ≡ found → in_order found past line_kind d ≡ Ok next → is_some next.node ≡ true
in_order_some None past kinds.Node d next is e = with_node_some past d next e
in_order_some None past kinds.Pod d next is e = absurd (cc)
in_order_some None past kinds.Tick d next is e = absurd (cc)
in_order_some None past kinds.Gone d next is e = absurd (cc)
in_order_some (Some version) past kinds.Node d next is e = absurd (cc)
in_order_some (Some version) past kinds.Pod d next is e =
    subst (λ (o : Option NodeConfig). is_some o ≡ true) (pod_line_keeps version past d next e)
    (some_node past.node version is)
in_order_some (Some version) past kinds.Tick d next is e =
    subst (λ (o : Option NodeConfig). is_some o ≡ true) (tick_line_keeps past d next e) (some_node past.node version is)
in_order_some (Some version) past kinds.Gone d next is e =
    subst (λ (o : Option NodeConfig). is_some o ≡ true) (gone_line_keeps past d next e) (some_node past.node version is)

line_some : (past : TraceSoFar) (line : List ℕ) (next : TraceSoFar) → line_at past line ≡ Ok next
    → is_some next.node ≡ true
line_some past line next e =
    let take : Data → LineKind → Result TraceSoFar FaultKind = λ d line_kind. in_order
    (version_in past) past line_kind d in
    let kind : Data → Result TraceSoFar FaultKind =
    λ d. some_or UnknownKind (kind_from (version_in past) (text_at (codes "kind") d)) >>= take d in
    let parse : ⊤ → Result TraceSoFar FaultKind = λ u. json_of line >>= kind in
    let short = bind_ok (refused_if (nat_lt longest_line (length line)) TooLong) parse next
    (sym (line_whole past line) ∙ e) in
    let json = bind_ok (json_of line) kind next short.2 in
    let line_kind = bind_ok (some_or UnknownKind (kind_from (version_in past) (text_at (codes "kind") json.0)))
    (take json.0) next json.2 in
    in_order_some (version_in past) past line_kind.0 json.0 next refl line_kind.2

earlier : (n m : ℕ) → m < suc n → (m < n) ⊎ (m ≡ n)
earlier zero zero lt = inr refl
earlier zero (suc m) lt = absurd (omega arith)
earlier (suc n) zero lt = inl (omega arith)
earlier (suc n) (suc m) lt = elim (earlier n m (omega arith)) [
  | inl less ↦ inl (omega arith)
  | inr is ↦ inr (ap suc is)
]

-- where the first n lines say no node, all of them are blank
blank_before : (format : Format) (lines : List (List ℕ)) (n : ℕ) (past : TraceSoFar) → AreSaid format lines n past
    → past.node ≡ None
    → (m : ℕ) (line : List ℕ) → m < n → slice_get lines m ≡ Some line → is_blank line ≡ true
blank_before format lines zero past said none m line lt e = absurd (omega arith)
blank_before format lines (suc n) past (before, last, said, here, inl blank) none m line lt e =
    let same : past.node ≡ before.node = ap (λ (p : TraceSoFar). p.node) blank.1 in
    elim (earlier n m lt) [
      | inl less ↦ blank_before format lines n before said (sym same ∙ none) m line less e
      | inr is ↦
          let at_n : slice_get lines n ≡ Some line = subst (λ (k : ℕ). slice_get lines k ≡ Some line) is e in
          let is_last : last ≡ line = cc in
          subst (λ (l : List ℕ). is_blank l ≡ true) is_last blank.0
    ]
blank_before format lines (suc n) past (before, last, said, here, inr counts) none m line lt e =
    let some = line_some before last past counts.1 in
    let never : false ≡ true = subst (λ (o : Option NodeConfig). is_some o ≡ true) none some in
    absurd (cc)

-- blank lines say (nothing format)
blanks_said : (format : Format) (lines : List (List ℕ)) → NoneCounts lines → (n : ℕ) → n ≤ length lines
    → AreSaid format lines n (nothing format)
blanks_said format lines blank zero le = refl
blanks_said format lines blank (suc n) le =
    let line = get_or lines n [] in
    let here : slice_get lines n ≡ Some line = slice_get-get_or lines n [] (omega arith) in
    ((nothing format), line, blanks_said format lines blank n (omega arith), here, inl (blank n line here, refl))

-- the end of a text whose lines have no fault
end_fault : (format : Format) (lines : List (List ℕ)) (fault : LineFault) (past : TraceSoFar) (node : Option NodeConfig)
    → AreSaid format lines (length lines) past → past.node ≡ node
    → finished (length lines + 1) past node ≡ Err fault → IsFirstFault format lines fault
end_fault format lines fault past None said none e =
    let is : record { line = length lines + 1; kind = Order } ≡ fault = cc in
    inr (
      λ n line here. blank_before format lines (length lines) past said none n line
          (slice_get_within lines n line here) here,
      ap (λ (f : LineFault). f.kind) (sym is),
      ap (λ (f : LineFault). f.line) (sym is),
    )
end_fault format lines fault past (Some node) said some e = absurd (cc)

end_whole : (format : Format) (lines : List (List ℕ)) (trace : Trace) (past : TraceSoFar) (node : Option NodeConfig)
    → AreSaid format lines (length lines) past → past.node ≡ node
    → finished (length lines + 1) past node ≡ Ok trace → IsWhole format lines trace
end_whole format lines trace past None said none e = absurd (cc)
end_whole format lines trace past (Some node) said some e =
    let is : trace_in node past.roll past.ticks ≡ trace = cc in
    record {
      past = past;
      said = said;
      node = some ∙ ap (λ (t : Trace). Some t.node) is;
      pods = ap (λ (t : Trace). t.pods) is;
      arrivals = ap (λ (t : Trace). t.arrivals) is;
      departures = ap (λ (t : Trace). t.departures) is;
      ticks = ap (λ (t : Trace). t.ticks) is;
    }

fault_of : (format : Format) (lines : List (List ℕ)) (fault : LineFault)
    → read_on 1 (nothing format) lines ≡ Err fault → IsFirstFault format lines fault
fault_of format lines fault e = elim (said_or_fault format lines (length lines) (omega arith)) [
  | inl said ↦ end_fault format lines fault said.0 said.0.node said.1 refl (sym (ended format lines said.0 said.1) ∙ e)
  | inr first ↦
      let given : Err (record { line = first.0 + 1; kind = first.1 }) ≡ Err fault =
      sym (refused format lines first.0 first.1 first.2) ∙ e in
      let is : record { line = first.0 + 1; kind = first.1 } ≡ fault = cc in
      let kind : first.1 ≡ fault.kind = ap (λ (f : LineFault). f.kind) is in
      inl (
        first.0,
        subst (λ (k : FaultKind). IsFaultAt format lines first.0 k) kind first.2,
        ap (λ (f : LineFault). f.line)
            (sym is),
      )
]

fault_is : (format : Format) (lines : List (List ℕ)) (fault : LineFault) → IsFirstFault format lines fault
    → read_on 1 (nothing format) lines ≡ Err fault
fault_is format lines fault (inl (n, first, number)) =
    refused format lines n fault.kind first ∙ ap (λ (k : ℕ). Err (record { line = k; kind = fault.kind })) (sym number)
fault_is format lines fault (inr (blank, kind, number)) =
    let said = blanks_said format lines blank (length lines) (omega arith) in
    ended format lines (nothing format) said
    ∙ ap (λ (k : ℕ). Err (record { line = k; kind = Order })) (sym number)
    ∙ ap (λ (k : FaultKind). Err (record { line = fault.line; kind = k })) (sym kind)

whole_of : (format : Format) (lines : List (List ℕ)) (trace : Trace) → read_on 1 (nothing format) lines ≡ Ok trace
    → IsWhole format lines trace
whole_of format lines trace e = elim (said_or_fault format lines (length lines) (omega arith)) [
  | inl said ↦ end_whole format lines trace said.0 said.0.node said.1 refl (sym (ended format lines said.0 said.1) ∙ e)
  | inr first ↦
      let given : ◌≡◌ {A = Result Trace LineFault} (Err (record { line = first.0 + 1; kind = first.1 })) (Ok trace) =
      sym (refused format lines first.0 first.1 first.2) ∙ e in
      absurd (cc)
]

whole_is : (format : Format) (lines : List (List ℕ)) (trace : Trace) → IsWhole format lines trace
    → read_on 1 (nothing format) lines ≡ Ok trace
whole_is format lines trace is =
    let n = length lines + 1 in
    let past = is.past in
    let r = past.roll in
    let of : List PodSpec → List ℕ → List (Option ℕ) → List TickObs → Result Trace LineFault =
    λ pods arrivals departures ticks. Ok (trace_in trace.node (roll pods arrivals departures) ticks) in
    ended format lines past is.said
    ∙ ap (λ (o : Option NodeConfig). finished n past o) is.node
    ∙ ap (λ (ps : List PodSpec). of ps r.arrivals r.departures past.ticks) is.pods
    ∙ ap (λ (arrivals : List ℕ). of trace.pods arrivals r.departures past.ticks) is.arrivals
    ∙ ap (λ (departures : List (Option ℕ)). of trace.pods trace.arrivals departures past.ticks) is.departures
    ∙ ap (λ (ts : List TickObs). of trace.pods trace.arrivals trace.departures ts) is.ticks

-- lines say one thing at most
one_left : (before past past' : TraceSoFar) (line : List ℕ) → Leaves before line past → Leaves before line past'
    → past ≡ past'
one_left before past past' line (inl (blank, is)) (inl (blank', is')) = is ∙ sym is'
one_left before past past' line (inl (blank, is)) (inr (counts, is')) = absurd (cc)
one_left before past past' line (inr (counts, is)) (inl (blank, is')) = absurd (cc)
one_left before past past' line (inr (counts, is)) (inr (counts', is')) = cc

one_said : (format : Format) (lines : List (List ℕ)) (n : ℕ) (past past' : TraceSoFar) → AreSaid format lines n past
    → AreSaid format lines n past'
    → past ≡ past'
one_said format lines zero past past' is is' = is ∙ sym is'
one_said format lines (suc n) past past' (before, line, said, here, leaves) (before', line', said', here', leaves') =
    let same : before' ≡ before = one_said format lines n before' before said' said in
    let same_line : line' ≡ line = cc in
    one_left before past past' line leaves
    (subst (λ (l : List ℕ). Leaves before l past') same_line
    (subst (λ (p : TraceSoFar). Leaves p line' past') same leaves'))

one_first : (format : Format) (lines : List (List ℕ)) (n m : ℕ) (kind kind' : FaultKind) → IsFaultAt format lines n kind
    → IsFaultAt format lines m kind' → (n ≡ m) × (kind ≡ kind')
one_first format lines n m kind kind' is is' =
    let given : ◌≡◌ {A = Result Trace LineFault} (Err (record { line = n + 1; kind = kind }))
    (Err (record { line = m + 1; kind = kind' })) = sym (refused format lines n kind is)
    ∙ refused format lines m kind' is' in
    let same : ◌≡◌ {A = LineFault} (record { line = n + 1; kind = kind }) (record { line = m + 1; kind = kind' }) =
    cc in
    let number : n + 1 ≡ m + 1 = ap (λ (f : LineFault). f.line) same in
    (omega arith, ap (λ (f : LineFault). f.kind) same)

pub first_fault : FirstFault
unfolding trace_of
first_fault format text fault = (fault_of format (lines_of text) fault, fault_is format (lines_of text) fault)

pub whole_trace : WholeTrace
unfolding trace_of
whole_trace format text trace = (whole_of format (lines_of text) trace, whole_is format (lines_of text) trace)

pub one_fault : OneFault
one_fault = record { said = one_said; fault = one_first }
