use Rattle.pressure.proofs.Latest.{met_after, not_met_after}
use Rattle.pressure.proofs.pressure.latest_after.Goals as goal

pub returns-then-met : goal.returns-then-met
returns-then-met c = λ h is. met_after h c.args.latest c.args.at c.later.result c.args.met c.if-met.true
    c.later.ensures is

pub returns-else-met : goal.returns-else-met
returns-else-met c = λ h is. not_met_after h c.args.latest c.args.at c.args.met c.if-met.false is
