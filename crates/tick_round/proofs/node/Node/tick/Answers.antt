use Rattle.std.proofs.Common.{sym, ◌∙◌, [], ◌∷◌}
use Rattle.tick_round.proofs.After.{takes_ticks, gates_updates}
use Rattle.tick_round.proofs.node.Node.tick.Goals as goal

pub returns-in-Ok-clause-taken : goal.returns-in-Ok-clause-taken
returns-in-Ok-clause-taken g c =
    takes_ticks (c.args.tick ∷ []) (sym c.self.view_is ∙ sym c.take.ensures.value
    ∙ c.in-Some.is) c.replace.ensures.after
    c.in-Ok.ensures.next

pub returns-in-Ok-clause-gated : goal.returns-in-Ok-clause-gated
returns-in-Ok-clause-gated g c =
    gates_updates (g.G.Gate.left c.args.gate.now) (c.args.tick ∷ [])
    (sym c.self.view_is ∙ sym c.take.ensures.value ∙ c.in-Some.is) c.in-Ok.ensures.gated
