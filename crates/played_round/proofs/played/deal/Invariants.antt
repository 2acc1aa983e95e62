use Rattle.std.proofs.Common.{◌≡◌}
use Rattle.played_round.specs.state.Round.{dealt, with_pool}
use Rattle.played_round.proofs.played.deal.Given as goal

abbrev pub invariant-loop-number : goal.invariant-loop-number
invariant-loop-number g l =
    l.round ≡ with_pool l.fn.round (dealt l.workers l.number l.fn.round.pool.book)
