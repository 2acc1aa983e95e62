use Rattle.std.proofs.Common.{rules}
use Rattle.std.proofs.lemmas.List.Sorted.{answers_always}
use Rattle.std.proofs.lemmas.Result.{on_ok_weaker}
use Rattle.event_list.proofs.Ticks.{sorted_by}
use Rattle.event_list.proofs.tick.sort_by_moment.Goals as goal

pub returns : goal.returns
returns c =
    let keys = answers_always _ _ _ (λ f a r next called. search rules) in
    let stable = c.sort_by_key.ensures.stable (λ e. e.at) keys in
    on_ok_weaker c.sort_by_key.result
    (λ sorted. sorted_by _ _ (sorted (λ e. e.at) keys) c.sort_by_key.ensures.permutation stable)
    c.sort_by_key.ensures.sorted
