-- The report of a trace.
use Rattle.std.specs.Prelude.{ℕ, List}
use Rattle.trace.specs.declared.trace_so_far.Trace.{Trace}
use Rattle.node_report.specs.rule.Report.{IsReport}

-- these bytes are the report of the trace: the report of its node, its ticks and its pods
abbrev pub IsReportOf : Trace → List ℕ → Type 0
IsReportOf trace bytes = IsReport trace.node trace.ticks trace.pods bytes
