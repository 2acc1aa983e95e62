-- What the standard format takes says the same in the extended one.
use Rattle.std.proofs.Common.{◌≡◌, ℕ, zero, suc, Bool, true, false, List, length, Ok, ap, inl, inr}
use Rattle.serde_json.specs.Data.{Data}
use Rattle.json_fields.specs.rule.Reading.{◌>>=◌, refused_if}
use Rattle.json_lines.specs.rule.Lines.{lines_of}
use Rattle.node_config.specs.declared.node.Format.{Format}
use Rattle.node_config.specs.declared.node.Format.TheVariants.{Standard, Extended}
use Rattle.node_config.specs.declared.node.NodeConfig.{NodeConfig}
use Rattle.node_lines.specs.rule.Node.{node_of}
use Rattle.manifest.specs.declared.pod.PodSpec.{PodSpec}
use Rattle.tick_lines.specs.declared.line.TickLine.{TickLine}
use Rattle.line_faults.specs.declared.fault.FaultKind.TheVariants.{Config}
use Rattle.trace.specs.declared.trace_so_far.LineKind.{LineKind}
use Rattle.trace.specs.declared.trace_so_far.LineKind.TheVariants as kinds
use Rattle.trace.specs.declared.placing.PlacedEntry.{PlacedEntry}
use Rattle.trace.specs.state.Laws.{Leaves, AreSaid, MayStand, Stands, HasPod, HasMoment, HasWritten, HasPlaces}
use Rattle.trace.specs.state.Laws.{IsApart}
use Rattle.trace.specs.state.Laws.{IsForwards, Says, says_node, says_pod, says_gone, says_tick, StandardIsExtended}
use Rattle.trace.specs.rule.TraceSoFar.{TraceSoFar}
use Rattle.trace.specs.rule.Written.{is_foreign, of_node_line, node_in}
use Rattle.trace.proofs.LawLemmas.{whole_trace}
use Rattle.trace.proofs.LawLemmas.Saying.{all_checks}

-- the same, read by the extended format
abbrev extended : TraceSoFar → TraceSoFar
extended past = record {
  format = Extended;
  node = past.node;
  roll = past.roll;
  ticks = past.ticks;
}

node_known : (d : Data) (node : NodeConfig) (foreign : Bool)
    → (refused_if foreign Config >>= λ known. of_node_line (node_of d)) ≡ Ok node → node_in Extended d ≡ Ok node
node_known d node true is = absurd (cc)
node_known d node false is = is

node_extended : (format : Format) (d : Data) (node : NodeConfig) → node_in format d ≡ Ok node
    → node_in Extended d ≡ Ok node
node_extended format d node is = node_known d node (is_foreign format d) is

may_stand : (past : TraceSoFar) (line_kind : LineKind) → MayStand past line_kind → MayStand (extended past) line_kind
may_stand past kinds.Node is = is
may_stand past kinds.Pod is = is
may_stand past kinds.Tick is = is
may_stand past kinds.Gone is = is

stands : (past : TraceSoFar) (line : List ℕ) (line_kind : LineKind) (d : Data) → Stands past line line_kind d
    → Stands (extended past) line line_kind d
stands past line line_kind d is = record {
  of_kind = record { json = is.of_kind.json; kind = is.of_kind.kind };
  here = may_stand past line_kind is.here;
}

has_pod : (past : TraceSoFar) (line : List ℕ) (d : Data) (pod : PodSpec) → HasPod past line d pod
    → HasPod (extended past) line d pod
has_pod past line d pod is =
    record { stands = stands past line kinds.Pod d is.stands; room = is.room; pod_is = is.pod_is }

has_moment : (past : TraceSoFar) (line : List ℕ) (d : Data) (at : ℕ) → HasMoment past line d at
    → HasMoment (extended past) line d at
has_moment past line d at is =
    record { stands = stands past line kinds.Tick d is.stands; room = is.room; moment = is.moment }

has_written : (past : TraceSoFar) (line : List ℕ) (d : Data) (at : ℕ) (written : TickLine)
    → HasWritten past line d at written → HasWritten (extended past) line d at written
has_written past line d at written is =
    record { has_moment = has_moment past line d at is.has_moment; written_is = is.written_is }

has_places : (past : TraceSoFar) (line : List ℕ) (d : Data) (at : ℕ) (written : TickLine) (placed : List PlacedEntry)
    → HasPlaces past line d at written placed → HasPlaces (extended past) line d at written placed
has_places past line d at written placed is =
    record { has_written = has_written past line d at written is.has_written; placed_are = is.placed_are }

is_apart : (past : TraceSoFar) (line : List ℕ) (d : Data) (at : ℕ) (written : TickLine) (placed : List PlacedEntry)
    → IsApart past line d at written placed → IsApart (extended past) line d at written placed
is_apart past line d at written placed is =
    record { has_places = has_places past line d at written placed is.has_places; apart = is.apart }

is_forwards : (past : TraceSoFar) (line : List ℕ) (d : Data) (at : ℕ) (written : TickLine) (placed : List PlacedEntry)
    → IsForwards past line d at written placed → IsForwards (extended past) line d at written placed
is_forwards past line d at written placed is =
    record { is_apart = is_apart past line d at written placed is.is_apart; forwards = is.forwards }

says : (past : TraceSoFar) (line : List ℕ) (next : TraceSoFar) → Says past line next
    → Says (extended past) line (extended next)
says past line _ (says_node d node is e) =
    says_node d node (stands past line kinds.Node d is) (node_extended past.format d node e)
says past line _ (says_pod d pod is new) = says_pod d pod (has_pod past line d pod is) new
says past line _ (says_gone d number is named) = says_gone d number (stands past line kinds.Gone d is) named
says past line _ (says_tick d at written placed is coded) =
    says_tick d at written placed (is_forwards past line d at written placed is) coded

leaves : (before : TraceSoFar) (line : List ℕ) (past : TraceSoFar) → Leaves before line past
    → Leaves (extended before) line (extended past)
leaves before line past (inl (blank, is)) = inl (blank, ap extended is)
leaves before line past (inr (counts, is)) =
    let now = says before line past ((all_checks before line past).0 is) in
    inr (counts, (all_checks (extended before) line (extended past)).1 now)

said : (format : Format) (lines : List (List ℕ)) (n : ℕ) (past : TraceSoFar) → AreSaid format lines n past
    → AreSaid Extended lines n (extended past)
said format lines zero past is = ap extended is
said format lines (suc n) past (before, line, so_far, here, left) =
    (extended before, line, said format lines n before so_far, here, leaves before line past left)

pub standard_is_extended : StandardIsExtended
standard_is_extended text trace is =
    let whole = (whole_trace Standard text trace).0 is in
    let lines = lines_of text in
    (whole_trace Extended text trace).1 (record {
      past = extended whole.past;
      said = said Standard lines (length lines) whole.past whole.said;
      node = whole.node;
      pods = whole.pods;
      arrivals = whole.arrivals;
      departures = whole.departures;
      ticks = whole.ticks;
    })
