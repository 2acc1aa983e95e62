use Rattle.std.proofs.Common.{length, arith}
use Rattle.piece_deques.proofs.Lists.{front, last, ones, sum_grown}
use Rattle.pool_workers.specs.state.FinishedWorkers.{IsAway, finished_kept, finished_pushed, finished_taken}
use Rattle.pool_workers.proofs.FinishedWorkers.{few_taken}
use Rattle.pool_workers.proofs.collect.collect.Goals as goal

pub joined-init : goal.joined-init
joined-init g c =
    let away = IsAway 0 (length g.D.Deal.all) in
    let finished = c.args.finished in
    let left = c.pop.new.self in
    let ended = c.in-Some.ended in
    let pop = c.in-Some.ensures.items in
    let e = c.in-Ok.ensures in
    let mine = last away finished.items left.items ended pop c.requires.whole in
    record {
      whole = front away finished.items left.items ended pop c.requires.whole;
      none = e.none;
      room = let had = mine.room_is in omega (arith, e.room);
      room_uncounted = let had = mine.room_is in omega (arith, e.room_uncounted);
      parts = let one = mine.share in omega (arith, e.parts, c.in-Some.ensures.cases);
      each = λ h. (
          let a = sum_grown (finished_kept h) left.items finished.items ended pop in
          let b = sum_grown (finished_pushed h) left.items finished.items ended pop in
          let d = sum_grown (finished_taken h) left.items finished.items ended pop in
          omega (arith, e.each h, c.requires.each h));
    }

pub finish-requires-in-Some-pop-clause-whole : goal.finish-requires-in-Some-pop-clause-whole
finish-requires-in-Some-pop-clause-whole g c =
    let mine = last (IsAway 0 (length g.D.Deal.all)) c.joined.left.items c.pop-in-joined.new.self.items
    c.in-Some-pop.ended c.in-Some-pop.ensures.items c.joined.invariant.whole in
    let parts = mine.parts in
    omega arith

pub finish-requires-in-Some-pop-clause-none : goal.finish-requires-in-Some-pop-clause-none
finish-requires-in-Some-pop-clause-none g c κs within =
    let mine = last (IsAway 0 (length g.D.Deal.all)) c.joined.left.items c.pop-in-joined.new.self.items
    c.in-Some-pop.ended c.in-Some-pop.ensures.items c.joined.invariant.whole in
    mine.none

pub merge-requires-clause-room : goal.merge-requires-clause-room
merge-requires-clause-room g c =
    let l = c.joined in
    let left = c.pop-in-joined.new.self in
    let ended = c.in-Some-pop.ended in
    let pop = c.in-Some-pop.ensures.items in
    let t = c.in-Ok-finish.theirs in
    let a = sum_grown (finished_kept (λ _. 1)) left.items l.left.items ended pop in
    let b = sum_grown (finished_pushed (λ _. 1)) left.items l.left.items ended pop in
    let d = sum_grown (finished_taken (λ _. 1)) left.items l.left.items ended pop in
    let few = few_taken left.items in
    let all = ones g.D.Deal.all in
    let k = ones l.total.done.items in
    let p = ones t.done.items in
    let m = ones l.total.uncounted.items in
    let q = ones t.uncounted.items in
    let each = l.invariant.each (λ _. 1) in
    let theirs = c.in-Ok-finish.ensures.each (λ _. 1) in (
      omega (arith, l.invariant.room, l.total.done.ok.0, t.done.ok.0),
      omega (arith, l.invariant.room_uncounted, l.total.uncounted.ok.0, t.uncounted.ok.0),
    )

pub joined-preserved : goal.joined-preserved
joined-preserved g c =
    let away = IsAway 0 (length g.D.Deal.all) in
    let l = c.joined in
    let i = l.invariant in
    let left = c.pop-in-joined.new.self in
    let ended = c.in-Some-pop.ended in
    let pop = c.in-Some-pop.ensures.items in
    let e = c.in-Ok-finish.ensures in
    let m = c.merge.ensures in
    let mine = last away l.left.items left.items ended pop i.whole in
    record {
      whole = front away l.left.items left.items ended pop i.whole;
      none = m.none;
      room = omega (arith, m.room, i.room);
      room_uncounted = omega (arith, m.room_uncounted, i.room_uncounted);
      parts = let one = mine.share in omega (arith, m.parts, e.parts, c.in-Some-pop.ensures.cases, i.parts);
      each = λ h. (
          let a = sum_grown (finished_kept h) left.items l.left.items ended pop in
          let b = sum_grown (finished_pushed h) left.items l.left.items ended pop in
          let d = sum_grown (finished_taken h) left.items l.left.items ended pop in
          omega (arith, e.each h, m.kept h, i.each h));
    }
