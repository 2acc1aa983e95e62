use Rattle.std.proofs.Common.{◌≡◌, ◌+◌, ◌*◌, map, length, vec_len, sym, ap, ◌∙◌, arith}
use Rattle.std.proofs.lemmas.List.{length-map}
use Rattle.piece_deques.proofs.Lists.{front, last, more_rows, sum_grown}
use Rattle.pool_workers.specs.state.Permits.{permit_deque, taken_by}
use Rattle.pool_workers.specs.state.FinishedWorkers.{IsRow, finished_deque}
use Rattle.pool_workers.proofs.FinishedWorkers.{stands}
use Rattle.pool_workers.proofs.absorb.absorb_all.Goals as goal

pub absorb-requires : goal.absorb-requires
absorb-requires g c =
    let l = c.loop-row in
    let mine =
    last (IsRow (map finished_deque c.args.finished.now.items)) l.rows.items c.pop.new.self.items c.in-Some.row
    c.in-Some.ensures.items l.invariant.rows in
    stands c.in-Some.row.items (map finished_deque l.finished.items) (mine ∙ sym l.invariant.filled)

pub loop-row-preserved : goal.loop-row-preserved
loop-row-preserved g c =
    let l = c.loop-row in
    let i = l.invariant in
    let first = c.args.finished.now in
    let filled = map finished_deque first.items in
    let row = c.in-Some.row in
    let ended = c.pop.new.self in
    let pop = c.in-Some.ensures.items in
    let e = c.absorb.ensures in
    let mine = last (IsRow filled) l.rows.items ended.items row pop i.rows in
    record {
      rows = front (IsRow filled) l.rows.items ended.items row pop i.rows;
      filled = e.filled ∙ i.filled;
      worker_results = e.worker_results ∙ i.worker_results;
      parts = (
          let n : length row.items ≡ vec_len first =
          sym (length-map row.items permit_deque)
          ∙ (ap (λ l. length l) mine ∙ (length-map first.items finished_deque ∙ sym first.ok.0)) in
          let m : vec_len l.rows * vec_len first ≡ vec_len ended * vec_len first + vec_len first =
          ap (λ k. k * vec_len first) (sym c.in-Some.ensures.cases) ∙ more_rows (vec_len ended) (vec_len first) in
          omega (arith, e.parts, i.parts));
      taken = λ h. (
          let s = sum_grown (λ row. taken_by h row.items) ended.items l.rows.items row pop in
          omega (arith, e.taken h, i.taken h));
    }
