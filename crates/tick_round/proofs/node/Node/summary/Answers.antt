use Rattle.std.proofs.Common.{sym, ◌∙◌}
use Rattle.tick_round.proofs.After.{of_some}
use Rattle.tick_round.proofs.node.Node.summary.Goals as goal

pub returns-in-Some-clause-taken : goal.returns-in-Some-clause-taken
returns-in-Some-clause-taken g c = λ config pods ticks after.
    let was = of_some config pods ticks c.args.self.now c.in-Some.running (sym c.self.view_is ∙ c.in-Some.is) after in
    c.summary.ensures config pods ticks was.0 was.1
