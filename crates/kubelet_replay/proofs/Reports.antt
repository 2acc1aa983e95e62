-- A trace has one report.
use Rattle.std.proofs.Common.{◌≡◌, ℕ, List, All, get_or}
use Rattle.std.proofs.lemmas.Option.{slice_get-get_or}
use Rattle.manifest.specs.declared.pod.PodSpec.{PodSpec}
use Rattle.trace.specs.declared.trace_so_far.Trace.{Trace}
use Rattle.trace.specs.state.Sound.{AreAcceptable, HasShape}
use Rattle.trace.proofs.InRange.{HaveProbesInRange as HaveNumbersInRange}
use Rattle.event_list.specs.state.Laws.{ShowsKnownPods, HaveProbesInRange}
use Rattle.node_report.proofs.Exists.{some_report}
use Rattle.node_report.proofs.Unique.{one_report}
use Rattle.kubelet_replay.specs.rule.Report.{IsReportOf}
use Rattle.kubelet_replay.proofs.Replayable.{are_replayable}

-- a trace shows none but its pods
known : (trace : Trace) → AreAcceptable trace.ticks → HasShape trace.pods trace.arrivals trace.departures trace.ticks
    → All (ShowsKnownPods trace.pods) trace.ticks
known trace acceptable shape =
    let replayable = are_replayable trace.pods trace.arrivals trace.departures trace.ticks acceptable shape in
    λ t d lt. replayable.within t (get_or trace.ticks t d) (slice_get-get_or trace.ticks t d lt)

in_range : (pods : List PodSpec) → HaveNumbersInRange pods → HaveProbesInRange pods
in_range pods each n d lt c e within =
    let are = each n d lt c e within in
    record { startup = are.0; liveness = are.1; readiness = are.2 }

pub some_report_of : (trace : Trace) → AreAcceptable trace.ticks
    → HasShape trace.pods trace.arrivals trace.departures trace.ticks
    → HaveNumbersInRange trace.pods → (bytes : List ℕ) × IsReportOf trace bytes
some_report_of trace acceptable shape range =
    some_report trace.node trace.ticks trace.pods (known trace acceptable shape) (in_range trace.pods range)

pub one_report_of : (trace : Trace) (one other : List ℕ) → IsReportOf trace one → IsReportOf trace other → one ≡ other
one_report_of trace one other is was = one_report trace.node trace.ticks trace.pods one other is was
