use Rattle.std.proofs.Common.{◌≡◌, true, false}
use Rattle.std.specs.BTreeSet.{contains}
use Rattle.ranking.specs.state.Keys.{rank_cmp}
use Rattle.ranking.proofs.Held.{some_first, none_first, empty_any}
use Rattle.ranking.proofs.index.RankIndex.first.Goals as goal

pub returns-in-Some : goal.returns-in-Some
returns-in-Some c = λ held is.
    let has = contains rank_cmp c.self.inside.order in
    rw (← c.self.view_is) (some_first held _ has c.in-Some.key.now c.self.invariant (rw c.self.view_is is)
    c.in-Some.ensures.member c.in-Some.ensures.least)

pub returns-in-None : goal.returns-in-None
returns-in-None c = λ held is.
    let has = contains rank_cmp c.self.inside.order in
    none_first held c.args.self.now has (rw (← c.self.view_is) c.self.invariant) is
    (λ k. empty_any c.self.inside.order.keys _ (λ lt. let e : false ≡ true = c.in-None.ensures.variant.1 lt in cc))
