-- There is one report.
use Rattle.std.proofs.Common.{◌≡◌, ◌∙◌, ℕ, List, Ok, sym, subst}
use Rattle.node_config.specs.declared.node.Format.{Format}
use Rattle.trace.specs.declared.trace_so_far.Trace.{Trace}
use Rattle.kubelet_replay.specs.rule.Report.{IsReportOf}
use Rattle.kubelet_replay.proofs.Reports.{one_report_of}
use Rattle.kubelet_replay.specs.rule.Run.{IsReportIn}
use Rattle.kubelet_replay.specs.state.Laws.{OneReport}

text_one : (format : Format) (text a b : List ℕ) → IsReportIn format text a → IsReportIn format text b → a ≡ b
text_one format text a b x y =
    let given : Ok x.trace ≡ Ok y.trace = sym x.is_trace ∙ y.is_trace in
    let traces : y.trace ≡ x.trace = cc in
    one_report_of x.trace a b x.report (subst (λ (t : Trace). IsReportOf t b) traces y.report)

pub one_report : OneReport
one_report = text_one
