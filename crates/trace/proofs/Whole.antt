-- The steps of a line in one row.
use Rattle.std.proofs.Common.{◌≡◌, List, ℕ, Option, Result, Ok, Err, refl, length}
use Rattle.std.specs.Prelude.{⊤, nat_lt, nat_le, codes}
use Rattle.serde_json.specs.Data.{Data}
use Rattle.json_fields.specs.rule.Fields.{field_at, text_at}
use Rattle.json_fields.specs.rule.Reading.{◌>>=◌, refused_if, some_or}
use Rattle.following.specs.rule.Backwards.{is_backwards}
use Rattle.manifest.specs.declared.pod.PodSpec.{PodSpec}
use Rattle.node_config.specs.declared.node.Version.{Version}
use Rattle.observations.specs.declared.tick.TickObs.{TickObs}
use Rattle.observations.specs.rule.Limits.{most_pods, most_ticks}
use Rattle.tick_lines.specs.declared.line.TickLine.{TickLine}
use Rattle.line_faults.specs.declared.fault.FaultKind.{FaultKind}
use Rattle.line_faults.specs.declared.fault.FaultKind.TheVariants.{TooLong, UnknownKind, Order, TooMany, DuplicatePod}
use Rattle.line_faults.specs.declared.fault.FaultKind.TheVariants.{Backwards, ExitCode, StrangerPod}
use Rattle.trace.specs.declared.trace_so_far.LineKind.{LineKind}
use Rattle.trace.specs.declared.placing.PlacedEntry.{PlacedEntry}
use Rattle.json_lines.specs.rule.Lines.{longest_line}
use Rattle.trace.specs.rule.Observed.{observed, some_code_missing}
use Rattle.trace.specs.rule.TraceSoFar.{TraceSoFar, version_in, heeds, with_pod, without, with_tick}
use Rattle.trace.specs.rule.Placing.{placed_of}
use Rattle.roster.specs.rule.Roll.{key_of_pod}
use Rattle.trace.specs.rule.Pod.{has_key, pod_of_line, named_in}
use Rattle.trace.specs.rule.Tick.{moment_of, observed_in, tick_in, tick_at}
use Rattle.trace.specs.rule.Trace.{json_of, kind_from, kind_of_line, is_late, pod_in, pod_line_at, gone_line_at}
use Rattle.trace.specs.rule.Trace.{in_order, kind_and_value, line_at}
use Rattle.trace.specs.rule.Written.{tick_line_in}

-- the steps of a line, each with those after it
abbrev pub in_place : TraceSoFar → Data → LineKind → Result TraceSoFar FaultKind
in_place past d line_kind = in_order (version_in past) past line_kind d

abbrev pub with_kind : TraceSoFar → Data → Option LineKind → Result TraceSoFar FaultKind
with_kind past d kind = some_or UnknownKind kind >>= in_place past d

abbrev pub with_json : TraceSoFar → Data → Result TraceSoFar FaultKind
with_json past d = with_kind past d (kind_from (version_in past) (text_at (codes "kind") d))

abbrev pub with_tick_seen : TraceSoFar → TickObs → Result TraceSoFar FaultKind
with_tick_seen past tick = Ok (with_tick past tick)

abbrev pub with_places : TraceSoFar → ℕ → TickLine → List PlacedEntry → Result TraceSoFar FaultKind
with_places past at written placed = observed_in past at written placed >>= with_tick_seen past

abbrev pub with_written : TraceSoFar → ℕ → TickLine → Result TraceSoFar FaultKind
with_written past at written = placed_of (heeds past) past.roll written.entries >>= with_places past at written

abbrev pub with_moment : TraceSoFar → Data → ℕ → Result TraceSoFar FaultKind
with_moment past d at = tick_line_in (heeds past) d >>= with_written past at

abbrev pub with_room : TraceSoFar → Data → ⊤ → Result TraceSoFar FaultKind
with_room past d u = moment_of past.ticks (field_at (codes "at") d) >>= with_moment past d

abbrev pub with_code : TraceSoFar → ℕ → TickLine → List PlacedEntry → ⊤ → Result TickObs FaultKind
with_code past at written placed u = Ok (observed (heeds past) at written placed past.roll)

abbrev pub with_forwards : TraceSoFar → ℕ → TickLine → List PlacedEntry → ⊤ → Result TickObs FaultKind
with_forwards past at written placed u =
    refused_if (some_code_missing placed) ExitCode >>= with_code past at written placed

abbrev pub with_apart : TraceSoFar → ℕ → TickLine → List PlacedEntry → ⊤ → Result TickObs FaultKind
with_apart past at written placed u =
    refused_if (is_backwards past.ticks (observed (heeds past) at written placed past.roll)) Backwards
    >>= with_forwards past at written placed

abbrev pub gone_said : TraceSoFar → ℕ → Result TraceSoFar FaultKind
gone_said past number = Ok (without past number)

abbrev pub gone_named : TraceSoFar → Option ℕ → Result TraceSoFar FaultKind
gone_named past named = some_or StrangerPod named >>= gone_said past

pub gone_whole : (past : TraceSoFar) (d : Data)
    → gone_line_at past d ≡ gone_named past (named_in past.roll (text_at (codes "pod") d))
unfolding gone_line_at
gone_whole past d = refl

abbrev pub pod_new : TraceSoFar → PodSpec → ⊤ → Result TraceSoFar FaultKind
pod_new past pod u = Ok (with_pod past pod)

abbrev pub pod_said : TraceSoFar → PodSpec → Result TraceSoFar FaultKind
pod_said past pod = refused_if (has_key past.roll (key_of_pod pod)) DuplicatePod >>= pod_new past pod

abbrev pub pod_read : TraceSoFar → Data → ⊤ → Result TraceSoFar FaultKind
pod_read past d u = pod_of_line (heeds past) d >>= pod_said past

abbrev pub pod_early : TraceSoFar → Data → ⊤ → Result TraceSoFar FaultKind
pod_early past d u = refused_if (nat_le most_pods (length past.roll.pods)) TooMany >>= pod_read past d

-- steps in two rows, and in one
in_a_row : {A B C E : Type 0} (r : Result A E) (f : A → Result B E) (g : B → Result C E) (h : A → Result C E)
    → ((x : A) → (f x >>= g) ≡ h x) → ((r >>= f) >>= g) ≡ (r >>= h)
in_a_row (Ok x) f g h same = same x
in_a_row (Err fault) f g h same = refl

-- of a tick line, up to the tick
abbrev said_placed : TraceSoFar → ℕ → TickLine → Result TickObs FaultKind
said_placed past at written = placed_of (heeds past) past.roll written.entries >>= observed_in past at written

abbrev said_written : TraceSoFar → Data → ℕ → Result TickObs FaultKind
said_written past d at = tick_line_in (heeds past) d >>= said_placed past at

abbrev said_moment : TraceSoFar → Data → ⊤ → Result TickObs FaultKind
said_moment past d room = moment_of past.ticks (field_at (codes "at") d) >>= said_written past d

pub tick_whole : (past : TraceSoFar) (d : Data)
    → tick_at past d ≡ (refused_if (nat_le most_ticks (length past.ticks)) TooMany >>= with_room past d)
unfolding tick_at tick_in
tick_whole past d =
    let last = with_tick_seen past in
    in_a_row (refused_if (nat_le most_ticks (length past.ticks)) TooMany) (said_moment past d) last (with_room past d)
    (λ room.
    in_a_row (moment_of past.ticks (field_at (codes "at") d)) (said_written past d) last (with_moment past d) (λ at.
    in_a_row (tick_line_in (heeds past) d) (said_placed past at) last (with_written past at) (λ written.
    in_a_row (placed_of (heeds past) past.roll written.entries) (observed_in past at written) last
    (with_places past at written) (λ placed. refl))))

-- of a pod line, up to the pod
abbrev said_pod : TraceSoFar → Data → ⊤ → Result PodSpec FaultKind
said_pod past d room = pod_of_line (heeds past) d

abbrev said_early : TraceSoFar → Data → ⊤ → Result PodSpec FaultKind
said_early past d in_time = refused_if (nat_le most_pods (length past.roll.pods)) TooMany >>= said_pod past d

pub pod_whole : (version : Version) (past : TraceSoFar) (d : Data)
    → pod_line_at version past d ≡ (refused_if (is_late version past.ticks) Order >>= pod_early past d)
unfolding pod_line_at pod_in
pod_whole version past d =
    let last = pod_said past in
    in_a_row (refused_if (is_late version past.ticks) Order) (said_early past d) last (pod_early past d) (λ in_time.
    in_a_row (refused_if (nat_le most_pods (length past.roll.pods)) TooMany) (said_pod past d) last (pod_read past d)
    (λ room. refl))

-- of any line, up to its kind and its value
abbrev said_kind : TraceSoFar → Data → Result (LineKind × Data) FaultKind
said_kind past d = kind_of_line (version_in past) d >>= λ line_kind. Ok (line_kind, d)

abbrev said_json : TraceSoFar → List ℕ → ⊤ → Result (LineKind × Data) FaultKind
said_json past line short = json_of line >>= said_kind past

abbrev of_said : TraceSoFar → LineKind × Data → Result TraceSoFar FaultKind
of_said past said = in_order (version_in past) past said.0 said.1

abbrev pub json_read : TraceSoFar → List ℕ → ⊤ → Result TraceSoFar FaultKind
json_read past line short = json_of line >>= with_json past

pub line_whole : (past : TraceSoFar) (line : List ℕ)
    → line_at past line ≡ (refused_if (nat_lt longest_line (length line)) TooLong >>= json_read past line)
unfolding line_at kind_and_value
line_whole past line =
    let last = of_said past in
    in_a_row (refused_if (nat_lt longest_line (length line)) TooLong) (said_json past line) last (json_read past line)
    (λ short.
    in_a_row (json_of line) (said_kind past) last (with_json past) (λ d.
    in_a_row (kind_of_line (version_in past) d) (λ line_kind. Ok (line_kind, d)) last (in_place past d)
    (λ line_kind. refl)))
