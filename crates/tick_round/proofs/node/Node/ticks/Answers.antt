use Rattle.std.proofs.Common.{sym, ◌∙◌}
use Rattle.tick_round.proofs.After.{gates_updates}
use Rattle.tick_round.proofs.node.Node.ticks.Goals as goal

pub returns-in-Ok-clause-gated : goal.returns-in-Ok-clause-gated
returns-in-Ok-clause-gated g c =
    gates_updates (g.G.Gate.left c.args.gate.now) c.args.ticks.items
    (sym c.self.view_is ∙ sym c.take.ensures.value ∙ c.in-Some.is) c.in-Ok.ensures.gated
