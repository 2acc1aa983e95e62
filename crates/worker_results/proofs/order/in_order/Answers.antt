use Rattle.std.proofs.Common.{rules}
use Rattle.std.proofs.lemmas.List.Sorted.{IsNonDecreasingBy-from_sort_by_key}
use Rattle.piece_deques.specs.state.Rule.{number_of}
use Rattle.worker_results.proofs.InOrder.{placed_sorted}
use Rattle.worker_results.proofs.order.in_order.Goals as goal

pub returns-clause-placed : goal.returns-clause-placed
returns-clause-placed g c =
    let sort = c.sort_unstable_by_key.ensures in
    placed_sorted g.D.Deal.all _ _ c.requires.numbered c.requires.right c.requires.each sort.permutation
    (IsNonDecreasingBy-from_sort_by_key number_of _ sort.sorted (λ a r q k. search rules))
