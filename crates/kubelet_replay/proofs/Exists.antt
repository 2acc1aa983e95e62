-- A text with a trace has a report.
use Rattle.std.proofs.Common.{Ok}
use Rattle.trace.proofs.InRange.{probes_in_range}
use Rattle.trace.proofs.Shape.{given_shape}
use Rattle.trace.proofs.Sound.{given_acceptable}
use Rattle.kubelet_replay.proofs.Reports.{some_report_of}
use Rattle.kubelet_replay.specs.state.Laws.{SomeReportOfText}

pub some_report_of_text : SomeReportOfText
some_report_of_text format text trace is =
    let report =
    some_report_of trace (given_acceptable format text (Ok trace) is) (given_shape format text (Ok trace) is)
    (probes_in_range format text trace is) in
    (report.0, record { trace = trace; is_trace = is; report = report.1 })
