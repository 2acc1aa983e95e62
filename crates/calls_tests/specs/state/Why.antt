-- Why a text in memory has no report.
use Rattle.std.specs.Prelude.{◌≡◌, ℕ, ◌<◌, List, length, Err}
use Rattle.node_config.specs.declared.node.Format.TheVariants.{Standard}
use Rattle.trace.specs.rule.Trace.{trace_of}
use Rattle.kubelet_replay.specs.declared.fault.RunFault.{RunFault}
use Rattle.kubelet_replay.specs.declared.fault.RunFault.TheVariants as faults
use Rattle.kubelet_replay.specs.rule.Run.{longest_input, IsReportOfText}
use Rattle.calls_tests.specs.declared.uses.NoReport.{NoReport}
use Rattle.calls_tests.specs.declared.uses.NoReport.TheVariants.{Faulty, TooLong, NoRoom, OutOfMemory, Unread}

-- what a refusal of the replay says of it
abbrev pub no_report : RunFault → NoReport
no_report (faults.Line fault) = Faulty fault
no_report faults.TooLong = TooLong
no_report faults.Write = NoRoom
no_report faults.OutOfMemory = OutOfMemory
no_report faults.Read = Unread

-- what each reason says of the text
abbrev pub IsWhy : List ℕ → NoReport → Type 0
IsWhy text (Faulty fault) = trace_of Standard text ≡ Err fault
IsWhy text TooLong = longest_input < length text
IsWhy text NoRoom = (report : List ℕ) × IsReportOfText text report
IsWhy text OutOfMemory = Unit {0}
IsWhy text Unread = Unit {0}
