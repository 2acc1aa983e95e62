use Rattle.node_report.proofs.Unique.{one_report}
use Rattle.node_report.proofs.laws.one_report.Goals as goal

pub returns : goal.returns
returns c = one_report
