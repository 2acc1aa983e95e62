use Rattle.kubelet_replay.proofs.Exists.{some_report_of_text}
use Rattle.kubelet_replay.proofs.laws.some_report_of_text.Goals as goal

pub returns : goal.returns
returns c = some_report_of_text
