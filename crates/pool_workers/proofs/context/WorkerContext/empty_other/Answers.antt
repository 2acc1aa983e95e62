use Rattle.std.proofs.Common.{◌∙◌, arith, rules, vec_capacity, refl}
use Rattle.crossbeam_deque.specs.Handles.{worker_view}
use Rattle.pool_workers.specs.state.Permits.{owner_deque}
use Rattle.pool_workers.proofs.Room.{room, fewer, found_before, pushed_same, permit_tag, took_none, took_one}
use Rattle.pool_workers.proofs.Room.{unused_still}
use Rattle.pool_workers.proofs.context.WorkerContext.empty_other.Goals as goal

pub returns-in_default-clause-same : goal.returns-in_default-clause-same
returns-in_default-clause-same g c =
    let b = c.other.self in
    let same = c.other.invariant.same in
    let tag = permit_tag b.handles.items c.args.from c.index_mut.result.now c.take.new.self
    (omega (arith, b.handles.ok.0)) c.index_mut.ensures.value c.take.ensures.pushed b.owner _ _ c.take.ensures.deque
    refl in
    record { tag_is = tag ∙ same.tag_is; own = same.own; count = same.count }

pub returns-then-not-finish-clause-same : goal.returns-then-not-finish-clause-same
returns-then-not-finish-clause-same g c =
    let b = c.other.self in
    let same = c.other.invariant.same in
    let tag = permit_tag b.handles.items c.args.from c.index_mut.result.now c.take.new.self
    (omega (arith, b.handles.ok.0)) c.index_mut.ensures.value c.take.ensures.pushed b.owner _ _ c.take.ensures.deque
    c.finish.ensures.keeps.parts in
    record { tag_is = tag ∙ same.tag_is; own = same.own; count = same.count }

pub other-preserved : goal.other-preserved
other-preserved g c =
    let b = c.other.self in
    let i = c.other.invariant in
    let same = i.same in
    let tag = permit_tag b.handles.items c.args.from c.index_mut.result.now c.take.new.self
    (omega (arith, b.handles.ok.0)) c.index_mut.ensures.value c.take.ensures.pushed b.owner _ _ c.take.ensures.deque
    c.finish.ensures.keeps.parts in
    record {
      same = record { tag_is = tag ∙ same.tag_is; own = same.own; count = same.count };
      none = search rules;
      owner = i.owner;
      before = λ found. found_before g.D.Deal.all c.args.self.now.own c.args.from b.handles.items c.take.new.self
          (i.before found);
    }

pub finish-requires-clause-room : goal.finish-requires-clause-room
finish-requires-clause-room g c κs within =
    let b = c.other.self in
    let old = worker_view b.owner in
    let few = fewer b.handles.items c.args.from c.index_mut.result.now c.take.new.self (omega (arith, b.handles.ok.0))
    c.index_mut.ensures.value c.take.ensures.pushed _ (owner_deque b.owner) b.own
    (λ e. c.requires.other (e ∙ c.other.invariant.same.own)) c.take.ensures.deque b.unused
    c.in-Some-take.ensures.taken in
    let r = room old.taken b.handles.items b.worker_result.done.items b.worker_result.uncounted.items
    b.worker_result.refused
    (vec_capacity b.worker_result.done) (b.matched (λ _. 1)) (omega (arith, b.few, b.room)) in (
      omega (arith, b.worker_result.done.ok.0, r.0),
      omega (arith, b.worker_result.uncounted.ok.0, b.room_uncounted, r.1),
    )

pub invariant_of-self-clause-matched : goal.invariant_of-self-clause-matched
invariant_of-self-clause-matched g c = λ weight. (
    let b = c.other.self in
    let none = took_none b.handles.items c.args.from c.index_mut.result.now c.take.new.self
    (omega (arith, b.handles.ok.0)) c.index_mut.ensures.value c.take.ensures.pushed weight c.in_default.ensures.none in
    omega (arith, b.matched weight))

pub invariant_of-self-clause-room : goal.invariant_of-self-clause-room
invariant_of-self-clause-room g c =
    let b = c.other.self in
    let same = pushed_same b.handles.items c.args.from c.index_mut.result.now c.take.new.self
    (omega (arith, b.handles.ok.0)) c.index_mut.ensures.value c.take.ensures.pushed in
    omega (arith, b.room)

pub invariant_of-self-in-other-clause-owns : goal.invariant_of-self-in-other-clause-owns
invariant_of-self-in-other-clause-owns g c = c.other.self.owns

pub invariant_of-self-in-other-clause-few : goal.invariant_of-self-in-other-clause-few
invariant_of-self-in-other-clause-few g c = c.other.self.few

pub invariant_of-self-clause-unused : goal.invariant_of-self-clause-unused
invariant_of-self-clause-unused g c =
    let b = c.other.self in
    unused_still b.handles.items c.args.from c.index_mut.result.now c.take.new.self (omega (arith, b.handles.ok.0))
    c.index_mut.ensures.value c.take.ensures.pushed (owner_deque b.owner) b.own
    (λ e. c.requires.other (e ∙ c.other.invariant.same.own)) c.take.ensures.deque b.unused

pub invariant_of-self-in-other-clause-unused : goal.invariant_of-self-in-other-clause-unused
invariant_of-self-in-other-clause-unused g c =
    let b = c.other.self in
    unused_still b.handles.items c.args.from c.index_mut.result.now c.take.new.self (omega (arith, b.handles.ok.0))
    c.index_mut.ensures.value c.take.ensures.pushed (owner_deque b.owner) b.own
    (λ e. c.requires.other (e ∙ c.other.invariant.same.own)) c.take.ensures.deque b.unused

pub invariant_of-self-in-other-clause-matched : goal.invariant_of-self-in-other-clause-matched
invariant_of-self-in-other-clause-matched g c = λ weight. (
    let b = c.other.self in
    let one = took_one b.handles.items c.args.from c.index_mut.result.now c.take.new.self
    (omega (arith, b.handles.ok.0)) c.index_mut.ensures.value c.take.ensures.pushed weight _
    c.in-Some-take.ensures.taken in
    omega (arith, c.finish.ensures.keeps.kept_is weight, b.matched weight))

pub invariant_of-self-in-other-clause-room : goal.invariant_of-self-in-other-clause-room
invariant_of-self-in-other-clause-room g c =
    let b = c.other.self in
    let same = pushed_same b.handles.items c.args.from c.index_mut.result.now c.take.new.self
    (omega (arith, b.handles.ok.0)) c.index_mut.ensures.value c.take.ensures.pushed in
    omega (arith, c.finish.ensures.keeps.room, b.room)

pub invariant_of-self-in-other-clause-room_uncounted : goal.invariant_of-self-in-other-clause-room_uncounted
invariant_of-self-in-other-clause-room_uncounted g c =
    omega (arith, c.finish.ensures.keeps.room, c.finish.ensures.keeps.room_uncounted, c.other.self.room_uncounted)
