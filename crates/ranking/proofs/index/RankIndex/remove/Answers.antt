use Rattle.std.proofs.Common.{sym, refl}
use Rattle.std.specs.BTreeSet.{contains}
use Rattle.std.specs.BTreeMap.{get}
use Rattle.std.specs.Ordering.{nat_cmp}
use Rattle.ranking.specs.state.Keys.{rank_cmp}
use Rattle.ranking.proofs.Changes.{put_out}
use Rattle.ranking.proofs.Held.{removed}
use Rattle.ranking.proofs.index.RankIndex.remove.Goals as goal

pub invariant_of-self : goal.invariant_of-self
invariant_of-self c = put_out (contains rank_cmp c.self.inside.order) (contains rank_cmp c.remove-in-Some.new.self)
    (get nat_cmp c.self.inside.keys) (get nat_cmp c.remove.new.self) c.args.number c.in-Some.key c.self.invariant
    (sym c.in-Some.ensures.value) c.remove-in-Some.ensures.updates.0 c.in-Some.ensures.updates.0

pub returns-in-Some-clause-removed : goal.returns-in-Some-clause-removed
returns-in-Some-clause-removed c = λ held after is are.
    removed held after _ _ c.args.number refl refl c.in-Some.ensures.updates.0 (rw c.self.view_is is) are
