-- The trace of a text, or its first faulty line with that line's first fault.
use Rattle.std.specs.Prelude.{ℕ, ◌+◌, ⊤, Bool, false, List, [], ◌∷◌, length, nat_lt, Option, Some, None}
use Rattle.std.specs.Prelude.{if◌then◌else◌, Result, Ok, Err, bytes_eq, codes}
use Rattle.serde_json.specs.Data.{Data}
use Rattle.json_fields.specs.rule.Fields.{text_at}
use Rattle.manifest.specs.declared.pod.PodSpec.{PodSpec}
use Rattle.observations.specs.declared.tick.TickObs.{TickObs}
use Rattle.json_fields.specs.rule.Reading.{◌>>=◌, refused_if, some_or}
use Rattle.line_faults.specs.declared.fault.FaultKind.{FaultKind}
use Rattle.line_faults.specs.declared.fault.FaultKind.TheVariants.{TooLong, NotJson, UnknownKind, Order, StrangerPod}
use Rattle.line_faults.specs.declared.fault.LineFault.{LineFault}
use Rattle.node_config.specs.declared.node.NodeConfig.{NodeConfig}
use Rattle.node_config.specs.declared.node.Format.{Format}
use Rattle.node_config.specs.declared.node.Version.{Version}
use Rattle.node_config.specs.declared.node.Version.TheVariants.{One, Two, Three}
use Rattle.trace.specs.declared.trace_so_far.Trace.{Trace}
use Rattle.trace.specs.declared.trace_so_far.LineKind.{LineKind}
use Rattle.trace.specs.declared.trace_so_far.LineKind.TheVariants as kinds
use Rattle.trace.specs.declared.trace_so_far.Turn.{Turn}
use Rattle.trace.specs.declared.trace_so_far.Turn.TheVariants as turns
use Rattle.json_lines.specs.rule.Lines.{lines_of, is_blank, json_in, longest_line}
use Rattle.trace.specs.rule.Written.{node_in}
use Rattle.roster.specs.rule.Roll.{Roll, nothing as no_pods}
use Rattle.trace.specs.rule.Pod.{new_key, room_for_pod, pod_of_line, named_in}
use Rattle.trace.specs.rule.TraceSoFar.{TraceSoFar, version_in, heeds, of_node, with_pod, without}
use Rattle.trace.specs.rule.Tick.{tick_at}

-- a line's JSON value
unfoldable pub json_of : List ℕ → Result Data FaultKind
json_of line = some_or NotJson (json_in line)

-- lines by which a pod leaves are of version 3
abbrev pub gone_in : Option Version → Option LineKind
gone_in None = None
gone_in (Some One) = None
gone_in (Some Two) = None
gone_in (Some Three) = Some kinds.Gone

abbrev pub kind_from : Option Version → Option (List ℕ) → Option LineKind
kind_from version None = None
kind_from version (Some s) =
    if bytes_eq s (codes "node") then Some kinds.Node
    else (if bytes_eq s (codes "pod") then Some kinds.Pod
    else (if bytes_eq s (codes "tick") then Some kinds.Tick
    else (if bytes_eq s (codes "gone") then gone_in version else None)))

-- the kind that a line gives, in a text of this version
abbrev pub kind_of_line : Option Version → Data → Result LineKind FaultKind
kind_of_line version d = some_or UnknownKind (kind_from version (text_at (codes "kind") d))

unfoldable pub with_node : TraceSoFar → Data → Result TraceSoFar FaultKind
with_node past d = do
  node ← node_in past.format d
  Ok (of_node past node)

-- a pod is appended to the earlier ones, if no present pod has its key
abbrev pub with_new_pod : TraceSoFar → PodSpec → Result TraceSoFar FaultKind
with_new_pod past pod = new_key past.roll pod >>= λ new. Ok (with_pod past pod)

-- in version 1 a pod line comes before all tick lines; in later versions it may follow one
abbrev pub is_late : Version → List TickObs → Bool
is_late One ticks = nat_lt 0 (length ticks)
is_late Two ticks = false
is_late Three ticks = false

-- the pod of a pod line that follows what is past, whatever its key
unfoldable pub pod_in : Version → TraceSoFar → Data → Result PodSpec FaultKind
pod_in version past d = do
  in_time ← refused_if (is_late version past.ticks) Order
  room ← room_for_pod past.roll.pods
  pod_of_line (heeds past) d

unfoldable pub pod_line_at : Version → TraceSoFar → Data → Result TraceSoFar FaultKind
pod_line_at version past d = do
  pod ← pod_in version past d
  with_new_pod past pod

-- a pod leaves, if it is present
unfoldable pub gone_line_at : TraceSoFar → Data → Result TraceSoFar FaultKind
gone_line_at past d = do
  number ← some_or StrangerPod (named_in past.roll (text_at (codes "pod") d))
  Ok (without past number)

-- a node line comes first, and nowhere else
abbrev pub turn_of : Option Version → LineKind → Result Turn FaultKind
turn_of None kinds.Node = Ok turns.Node
turn_of None kinds.Pod = Err Order
turn_of None kinds.Tick = Err Order
turn_of None kinds.Gone = Err Order
turn_of (Some version) kinds.Node = Err Order
turn_of (Some version) kinds.Pod = Ok (turns.Pod version)
turn_of (Some version) kinds.Tick = Ok turns.Tick
turn_of (Some version) kinds.Gone = Ok turns.Gone

abbrev pub in_turn : TraceSoFar → Turn → Data → Result TraceSoFar FaultKind
in_turn past turns.Node d = with_node past d
in_turn past (turns.Pod version) d = pod_line_at version past d
in_turn past turns.Tick d = tick_at past d
in_turn past turns.Gone d = gone_line_at past d

abbrev pub in_order : Option Version → TraceSoFar → LineKind → Data → Result TraceSoFar FaultKind
in_order version past line_kind d = turn_of version line_kind >>= λ turn. in_turn past turn d

abbrev pub line_length : List ℕ → Result ⊤ FaultKind
line_length line = refused_if (nat_lt longest_line (length line)) TooLong

-- the kind of a line in a text of this version, and its JSON value
unfoldable pub kind_and_value : Option Version → List ℕ → Result (LineKind × Data) FaultKind
kind_and_value version line = do
  short ← line_length line
  d ← json_of line
  line_kind ← kind_of_line version d
  Ok (line_kind, d)

-- a line that follows what is past
unfoldable pub line_at : TraceSoFar → List ℕ → Result TraceSoFar FaultKind
line_at past line = do
  said ← kind_and_value (version_in past) line
  in_order (version_in past) past said.0 said.1

abbrev pub at_line : {A : Type 0} → ℕ → Result A FaultKind → Result A LineFault
at_line n (Ok x) = Ok x
at_line n (Err kind) = Err (record { line = n; kind = kind })

abbrev pub trace_in : NodeConfig → Roll → List TickObs → Trace
trace_in node roll ticks = record {
  node = node;
  pods = roll.pods;
  arrivals = roll.arrivals;
  departures = roll.departures;
  ticks = ticks;
}

-- a text without a line that counts lacks a node line at its end
abbrev pub finished : ℕ → TraceSoFar → Option NodeConfig → Result Trace LineFault
finished n past None = Err (record { line = n; kind = Order })
finished n past (Some node) = Ok
    (trace_in node past.roll past.ticks)

-- the lines from the nth on, which follow what is past
abbrev pub read_on : ℕ → TraceSoFar → List (List ℕ) → Result Trace LineFault
read_on n past [] = finished n past past.node
read_on n past (line ∷ lines) =
    if is_blank line then read_on (n + 1) past lines
    else (at_line n (line_at past line) >>= λ next. read_on (n + 1) next lines)

-- no line was read yet
abbrev pub nothing : Format → TraceSoFar
nothing format = record { format = format; node = None; roll = no_pods; ticks = [] }

-- the trace of a text in a format
unfoldable pub trace_of : Format → List ℕ → Result Trace LineFault
trace_of format text = read_on 1 (nothing format) (lines_of text)
