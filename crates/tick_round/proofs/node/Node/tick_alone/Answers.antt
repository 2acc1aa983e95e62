use Rattle.std.proofs.Common.{sym, ◌∙◌, [], ◌∷◌}
use Rattle.tick_round.proofs.After.{takes_ticks}
use Rattle.tick_round.proofs.node.Node.tick_alone.Goals as goal

pub returns-in-Ok-clause-taken : goal.returns-in-Ok-clause-taken
returns-in-Ok-clause-taken g c =
    takes_ticks (c.args.tick ∷ []) (sym c.self.view_is ∙ sym c.take.ensures.value
    ∙ c.in-Some.is) c.replace.ensures.after
    c.in-Ok.ensures
