use Rattle.kubelet_replay.proofs.Gated.{report_gated}
use Rattle.kubelet_replay.proofs.report.by_workers.Goals as goal

pub returns-clause-gated : goal.returns-clause-gated
returns-clause-gated g c =
    report_gated (g.G.Gate.left c.args.gate.now) c.in_ok-node.pods.items c.args.trace.pods c.in_ok-node.ticks.items
    c.args.trace.ticks c.take_by_workers-taken.result c.report_after-report.result c.in_ok-node.ensures.pods
    c.in_ok-node.ensures.ticks c.take_by_workers-taken.ensures.gated c.report_after-report.ensures.taken
