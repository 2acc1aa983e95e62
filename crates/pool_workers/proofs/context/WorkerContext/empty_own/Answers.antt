use Rattle.std.proofs.Common.{arith, vec_capacity, ap, sym, subst}
use Rattle.std.specs.List.{sum_by}
use Rattle.std.proofs.lemmas.List.Sums.{sum_by_push}
use Rattle.crossbeam_deque.specs.Handles.{worker_deque, worker_view}
use Rattle.pool_workers.specs.state.Permits.{FilledDeque, owner_deque, IsUnused}
use Rattle.pool_workers.proofs.Room.{more_left, no_more_of_others, filled_same, room, still_owner}
use Rattle.pool_workers.proofs.context.WorkerContext.empty_own.Goals as goal

pub finish-requires-clause-room : goal.finish-requires-clause-room
finish-requires-clause-room g c κs within =
    let b = c.own.self in
    let old = worker_view b.owner in
    let more = more_left old (worker_view c.pop.new.owner) c.in-Some-pop.piece c.in-Some-pop.ensures.took in
    let most = no_more_of_others (owner_deque b.owner) b.own b.handles.items b.unused in
    let r = room old.taken b.handles.items b.worker_result.done.items b.worker_result.uncounted.items
    b.worker_result.refused
    (vec_capacity b.worker_result.done) (b.matched (λ _. 1)) (let all = b.room in omega arith) in (
      omega (arith, b.worker_result.done.ok.0, r.0),
      omega (arith, b.worker_result.uncounted.ok.0, b.room_uncounted, r.1),
    )

pub invariant_of-self-in-own-clause-owns : goal.invariant_of-self-in-own-clause-owns
invariant_of-self-in-own-clause-owns g c =
    still_owner c.own.self.owner c.pop.new.owner c.own.self.owns c.pop.ensures.same.1 c.in-Some-pop.ensures.took

pub invariant_of-self-in-own-clause-few : goal.invariant_of-self-in-own-clause-few
invariant_of-self-in-own-clause-few g c = c.in-Some-pop.ensures.took.few

pub invariant_of-self-in-own-clause-matched : goal.invariant_of-self-in-own-clause-matched
invariant_of-self-in-own-clause-matched g c = λ weight. (
    let b = c.own.self in
    let old = worker_view b.owner in
    let grown = ap (λ v. sum_by weight v.taken) c.in-Some-pop.ensures.took.grown in
    let one = sum_by_push weight old.taken c.in-Some-pop.piece.number in
    omega (arith, c.finish.ensures.keeps.kept_is weight, b.matched weight))

pub invariant_of-self-in-own-clause-unused : goal.invariant_of-self-in-own-clause-unused
invariant_of-self-in-own-clause-unused g c =
    let b = c.own.self in
    let new = c.pop.new.owner in
    let pushed = ap (λ v. v.pushed) c.in-Some-pop.ensures.took.grown in
    let same =
    filled_same (worker_deque new) (worker_deque b.owner) (worker_view new).pushed (worker_view b.owner).pushed
    c.pop.ensures.same.0 pushed in
    subst (λ (p : FilledDeque). IsUnused p b.own b.handles.items) (sym same) b.unused

pub invariant_of-self-in-own-clause-room : goal.invariant_of-self-in-own-clause-room
invariant_of-self-in-own-clause-room g c = omega (arith, c.finish.ensures.keeps.room, c.own.self.room)

pub invariant_of-self-in-own-clause-room_uncounted : goal.invariant_of-self-in-own-clause-room_uncounted
invariant_of-self-in-own-clause-room_uncounted g c =
    omega (arith, c.finish.ensures.keeps.room, c.finish.ensures.keeps.room_uncounted, c.own.self.room_uncounted)
