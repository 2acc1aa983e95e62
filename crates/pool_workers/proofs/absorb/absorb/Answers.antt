use Rattle.std.proofs.Common.{◌≡◌, ◌∷◌, [], map, length, sym, ap, ◌∙◌, arith, length-append}
use Rattle.std.specs.List.{sum_by}
use Rattle.std.proofs.lemmas.List.Sums.{sum_by_push, sum_by-append}
use mathlib.Core.Option.{some-injective}
use Rattle.crossbeam_deque.specs.Handles.{view, worker_deque, worker_view}
use Rattle.piece_deques.proofs.Lists.{map_here, map_set, sum_set}
use Rattle.worker_results.specs.declared.handle.StealHandle.{StealHandle}
use Rattle.pool_workers.specs.state.Permits.{FilledDeque, permit_deque, taken_by}
use Rattle.pool_workers.proofs.Room.{filled_same}
use Rattle.pool_workers.specs.state.FinishedWorkers.{finished_deque, finished_parts, finished_taken}
use Rattle.pool_workers.proofs.FinishedWorkers.{last_place, others_stand}
use Rattle.pool_workers.proofs.absorb.absorb.Goals as goal

pub index_mut-requires : goal.index_mut-requires
index_mut-requires g c =
    let l = c.loop-handle in
    let there = last_place l.row.items c.pop.new.self.items c.in-Some.handle l.finished.items c.len-at.result
    c.in-Some.ensures.items (omega (arith, c.pop.new.self.ok.0)) l.invariant.stand in
    omega (arith, there.0, l.finished.ok.0)

pub absorb-requires : goal.absorb-requires
absorb-requires g c =
    let l = c.loop-handle in
    let there = last_place l.row.items c.pop.new.self.items c.in-Some.handle l.finished.items c.len-at.result
    c.in-Some.ensures.items (omega (arith, c.pop.new.self.ok.0)) l.invariant.stand in
    let h = map_here finished_deque l.finished.items c.len-at.result c.index_mut.result.now there.0
    c.index_mut.ensures.value in
    ap (λ (p : FilledDeque). p.deque)
    (some-injective (permit_deque c.in-Some.handle) (finished_deque c.index_mut.result.now) (sym there.1 ∙ h))

pub loop-handle-preserved : goal.loop-handle-preserved
loop-handle-preserved g c =
    let l = c.loop-handle in
    let i = l.invariant in
    let n = c.len-at.result in
    let old = c.index_mut.result.now in
    let new = c.absorb.new.self in
    let u = c.absorb.ensures in
    let row = c.in-Some.ensures.items in
    let ended = c.pop.new.self.items in
    let handle = c.in-Some.handle in
    let all = map finished_deque l.finished.items in
    let there = last_place l.row.items ended handle l.finished.items n row (omega (arith, c.pop.new.self.ok.0)) i.stand
    in
    let at = c.index_mut.ensures.value in
    let same : finished_deque new ≡ finished_deque old = filled_same (worker_deque new.owner) (worker_deque old.owner)
    (worker_view new.owner).pushed (worker_view old.owner).pushed u.deque u.pushed in
    let filled = map_set finished_deque l.finished.items n old new at same in
    record {
      stand = others_stand l.row.items ended handle all _ row filled i.stand;
      filled = filled ∙ i.filled;
      worker_results = map_set (λ r. r.worker_result) l.finished.items n old new at u.worker_result ∙ i.worker_results;
      parts = (
          let t = sum_set finished_parts l.finished.items n old new there.0 at in
          let len = ap (λ l. length l) row ∙ length-append ended (handle ∷ []) in
          omega (arith, u.parts, i.parts));
      taken = λ h. (
          let t = sum_set (finished_taken h) l.finished.items n old new there.0 at in
          let r = ap (taken_by h) row
          ∙ sum_by_push (λ (r : StealHandle g.row.D.Denot). sum_by h (view r.permit).taken) ended handle in
          let w = ap (sum_by h) u.taken
          ∙ sum_by-append h (worker_view old.owner).taken (view handle.permit).taken in
          omega (arith, i.taken h));
    }
