use Rattle.std.proofs.Common.{sym, ◌∙◌, refl}
use Rattle.std.specs.BTreeSet.{contains}
use Rattle.std.specs.BTreeMap.{get}
use Rattle.std.specs.Ordering.{nat_cmp}
use Rattle.ranking.specs.state.Keys.{rank_cmp}
use Rattle.ranking.proofs.Changes.{put_new, put_changed, put_back, was_new}
use Rattle.ranking.proofs.index.RankIndex.put.Goals as goal

pub invariant_of-self-in-Some : goal.invariant_of-self-in-Some
invariant_of-self-in-Some c =
    let has = contains rank_cmp c.self.inside.order in
    let more = contains rank_cmp c.insert.new.self in
    let less = contains rank_cmp c.remove-in-Some.new.self in
    let keys = get nat_cmp c.self.inside.keys in
    let then = get nat_cmp c.insert-2.new.self in
    put_changed has more less keys then c.args.key c.in-Some.old c.self.invariant
    (was_new _ _ c.in-Ok.ensures.added c.if-not-is_new.false)
    (sym c.in-Ok-insert.ensures.old ∙ c.in-Some.is)
    c.in-Ok.ensures.updates.0 c.remove-in-Some.ensures.updates.0 c.in-Ok-insert.ensures.updates.0

pub invariant_of-self-in_default : goal.invariant_of-self-in_default
invariant_of-self-in_default c =
    let has = contains rank_cmp c.self.inside.order in
    let more = contains rank_cmp c.insert.new.self in
    let keys = get nat_cmp c.self.inside.keys in
    let then = get nat_cmp c.insert-2.new.self in
    put_new has more keys then c.args.key c.self.invariant (sym c.in-Ok-insert.ensures.old ∙ c.in_default.is)
    c.in-Ok.ensures.updates.0 c.in-Ok-insert.ensures.updates.0

pub invariant_of-self-in-Err-insert : goal.invariant_of-self-in-Err-insert
invariant_of-self-in-Err-insert c =
    let has = contains rank_cmp c.self.inside.order in
    let more = contains rank_cmp c.insert.new.self in
    let less = contains rank_cmp c.remove.new.self in
    let keys = get nat_cmp c.self.inside.keys in
    let then = get nat_cmp c.insert-2.new.self in
    put_back has more less keys then c.args.key c.self.invariant
    (was_new _ _ c.in-Ok.ensures.added c.if-not-is_new.false)
    c.in-Ok.ensures.updates.0 c.remove.ensures.updates.0 (λ n. rw c.in-Err-insert.ensures.err refl)
