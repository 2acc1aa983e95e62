use Rattle.std.proofs.Common.{subst, sym, ◌<◌}
use Rattle.piece_deques.specs.declared.rule.Tally.{Tally}
use Rattle.piece_deques.proofs.Moves.{takes, found_first, one_due}
use Rattle.piece_deques.proofs.deque.steal.Goals as goal

pub steal_as-requires-clause-takes : goal.steal_as-requires-clause-takes
steal_as-requires-clause-takes g c =
    takes _ _ _ 1 (subst (λ (v : Tally). 0 < v.parts) (sym c.loop.invariant.same) c.requires.some)

pub steal_as-requires-clause-empty : goal.steal_as-requires-clause-empty
steal_as-requires-clause-empty g c = found_first _ _ _ _ c.requires.in_order

pub returns-in-Success-clause-due : goal.returns-in-Success-clause-due
returns-in-Success-clause-due g c = one_due _ _ _ c.in-Success.piece c.in-Success.ensures.rule
