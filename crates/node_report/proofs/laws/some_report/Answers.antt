use Rattle.node_report.proofs.Exists.{some_report}
use Rattle.node_report.proofs.laws.some_report.Goals as goal

pub returns : goal.returns
returns c = some_report
