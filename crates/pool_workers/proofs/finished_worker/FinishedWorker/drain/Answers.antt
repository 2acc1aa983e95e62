use Rattle.std.proofs.Common.{arith, rules, ◌∷◌, [], length, ap, ◌∙◌, length-append}
use Rattle.std.specs.List.{sum_by}
use Rattle.std.proofs.lemmas.List.Sums.{sum_by_push}
use Rattle.crossbeam_deque.specs.Handles.{worker_view}
use Rattle.pool_workers.proofs.Room.{more_left, still_owner}
use Rattle.pool_workers.proofs.FinishedWorkers.{room_left}
use Rattle.pool_workers.proofs.finished_worker.FinishedWorker.drain.Goals as goal

pub finish-requires-clause-room : goal.finish-requires-clause-room
finish-requires-clause-room g c κs within =
    let old = c.loop.self in
    room_left old
    (more_left (worker_view old.owner) (worker_view c.pop.new.owner) c.in-Some-pop.piece c.in-Some-pop.ensures.took)

pub invariant_of-self-in-loop-clause-owns : goal.invariant_of-self-in-loop-clause-owns
invariant_of-self-in-loop-clause-owns g c =
    still_owner c.loop.self.owner c.pop.new.owner c.loop.self.owns c.pop.ensures.same.1 c.in-Some-pop.ensures.took

pub invariant_of-self-in-loop-clause-bounded : goal.invariant_of-self-in-loop-clause-bounded
invariant_of-self-in-loop-clause-bounded g c =
    let parts = ap (λ v. v.parts) c.in-Some-pop.ensures.took.grown in
    let had = c.loop.self.bounded in
    omega arith

pub invariant_of-self-in-loop-clause-few : goal.invariant_of-self-in-loop-clause-few
invariant_of-self-in-loop-clause-few g c = c.in-Some-pop.ensures.took.few

pub invariant_of-self-in-loop-clause-room : goal.invariant_of-self-in-loop-clause-room
invariant_of-self-in-loop-clause-room g c =
    let b = c.loop.self in
    let took = c.in-Some-pop.ensures.took in
    let grown = ap (λ v. length v.taken) took.grown in
    let same = ap (λ v. length v.pushed) took.grown in
    let n = length-append (worker_view b.owner).taken (c.in-Some-pop.piece.number ∷ []) in
    omega (arith, c.finish.ensures.keeps.kept_is (λ _. 1), c.finish.ensures.keeps.room, b.room)

pub invariant_of-self-in-loop-clause-room_uncounted : goal.invariant_of-self-in-loop-clause-room_uncounted
invariant_of-self-in-loop-clause-room_uncounted g c =
    omega (arith, c.finish.ensures.keeps.room, c.finish.ensures.keeps.room_uncounted, c.loop.self.room_uncounted)

pub loop-preserved : goal.loop-preserved
loop-preserved g c =
    let b = c.loop.self in
    let i = c.loop.invariant in
    let old = worker_view b.owner in
    let took = c.in-Some-pop.ensures.took in
    record {
      whole = ap (λ v. v.parts) took.grown ∙ i.whole;
      none = search rules;
      pushed = ap (λ v. v.pushed) took.grown ∙ i.pushed;
      share = c.finish.ensures.keeps.parts ∙ i.share;
      room = c.finish.ensures.keeps.room ∙ i.room;
      kept' = λ weight. (
          let grown = ap (λ v. sum_by weight v.taken) took.grown in
          let one = sum_by_push weight old.taken c.in-Some-pop.piece.number in
          omega (arith, c.finish.ensures.keeps.kept_is weight, i.kept' weight));
    }
