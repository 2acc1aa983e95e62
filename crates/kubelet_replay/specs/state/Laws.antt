-- Laws of reports, over the definitions alone.
use Rattle.std.specs.Prelude.{◌≡◌, ℕ, List, Ok}
use Rattle.node_config.specs.declared.node.Format.{Format}
use Rattle.trace.specs.declared.trace_so_far.Trace.{Trace}
use Rattle.trace.specs.rule.Trace.{trace_of}
use Rattle.kubelet_replay.specs.rule.Run.{IsReportIn}

-- a text that is a trace has a report
abbrev pub SomeReportOfText : Type 0
SomeReportOfText =
    (format : Format) (text : List ℕ) (trace : Trace) → trace_of format text ≡ Ok trace
    → (bytes : List ℕ) × IsReportIn format text bytes

-- a text has at most one report
abbrev pub OneReport : Type 0
OneReport = (format : Format) (text one other : List ℕ) → IsReportIn format text one → IsReportIn format text other
    → one ≡ other
