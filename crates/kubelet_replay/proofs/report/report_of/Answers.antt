use Rattle.kubelet_replay.proofs.report.report_of.Goals as goal

pub returns : goal.returns
returns g c = λ config pods ticks after.
    c.in_ok-report.ensures config pods ticks (c.in-Ok.ensures.taken config pods ticks after)
