use Rattle.kubelet_replay.proofs.Unique.{one_report}
use Rattle.kubelet_replay.proofs.laws.one_report.Goals as goal

pub returns : goal.returns
returns c = one_report
