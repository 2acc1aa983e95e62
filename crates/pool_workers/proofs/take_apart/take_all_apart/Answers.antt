use Rattle.std.proofs.Common.{◌≡◌, ◌+◌, map, length, vec_len, vec_capacity, ap, ◌∙◌, arith}
use Rattle.std.specs.List.{sum_by}
use Rattle.std.proofs.lemmas.List.Sorted.{All-permutation}
use Rattle.crossbeam_deque.specs.Handles.{worker_view}
use Rattle.piece_deques.specs.declared.rule.Tally.{Tally}
use Rattle.piece_deques.proofs.Lists.{front, last, grown, moved, none_all, sum_grown, to_move}
use Rattle.pool_workers.specs.state.Permits.{permit_deque, owner_deque, pushed_count, taken_by}
use Rattle.pool_workers.specs.state.Contexts.{context_deque, context_tag, IsLaid}
use Rattle.worker_results.specs.state.WorkerResults.{kept}
use Rattle.pool_workers.proofs.FilledDeques.{row_pushed}
use Rattle.pool_workers.specs.state.FinishedWorkers.{finished_deque, finished_parts, finished_kept, finished_taken}
use Rattle.pool_workers.specs.state.FinishedWorkers.{IsAway, IsRow}
use Rattle.pool_workers.proofs.take_apart.take_all_apart.Goals as goal

pub loop-context-init : goal.loop-context-init
loop-context-init g c =
    let contexts = c.args.contexts in
    let n = vec_len contexts in
    let filled = map context_deque contexts.items in
    let finished = c.args.finished.now in
    let rows = c.args.rows.now in
    let r = c.requires in
    let e : length finished.items ≡ 0 = ap (λ l. length l) r.none in
    let f : length rows.items ≡ 0 = ap (λ l. length l) r.empty in
    record {
      laid = All-permutation (λ b. IsLaid n filled (context_tag b)) contexts.items c.reverse.new.self.items
          c.reverse.ensures.permutation r.laid;
      len = omega (arith, finished.ok.0, c.reverse.ensures.len);
      len_rows = omega (arith, finished.ok.0, rows.ok.0);
      room = r.room;
      room_rows = r.room_rows;
      order = to_move finished_deque context_deque contexts.items c.reverse.new.self.items finished.items r.none
          c.reverse.ensures.items;
      finished = none_all (IsAway n (pushed_count filled)) finished.items r.none;
      rows = none_all (IsRow filled) rows.items r.empty;
      kept = λ h. (
          let a = ap (sum_by (finished_kept h)) r.none in
          let b = ap (sum_by (finished_taken h)) r.none in
          let d = ap (sum_by (λ row. taken_by h row.items)) r.empty in
          omega arith);
    }

pub take_apart-requires : goal.take_apart-requires
take_apart-requires g c =
    let contexts = c.args.contexts in
    let mine = last (λ b. IsLaid (vec_len contexts) (map context_deque contexts.items) (context_tag b))
    c.loop-context.left.items c.pop.new.self.items c.in-Some.context c.in-Some.ensures.items
    c.loop-context.invariant.laid in
    let parts = mine.parts in
    omega arith

pub loop-context-preserved : goal.loop-context-preserved
loop-context-preserved g c =
    let l = c.loop-context in
    let i = l.invariant in
    let contexts = c.args.contexts in
    let n = vec_len contexts in
    let filled = map context_deque contexts.items in
    let b = c.in-Some.context in
    let left = c.pop.new.self in
    let ended = c.in_ok-ended.ended in
    let row = c.in_ok-ended.row in
    let e = c.in_ok-ended.ensures in
    let pop = c.in-Some.ensures.items in
    let put = c.push_reserved.ensures in
    let put' = c.push_reserved-in-Some.ensures in
    let mine = last (λ b. IsLaid n filled (context_tag b)) l.left.items left.items b pop i.laid in
    let permits : map permit_deque row.items ≡ filled = ap (λ v. map permit_deque v.items) e.handles ∙ mine.permits in
    let parts : finished_parts ended ≡ (worker_view b.owner).parts =
    ap (λ w. (worker_view {V = Tally} w).parts) e.owner in
    let room : vec_capacity ended.worker_result.done ≡ vec_capacity b.worker_result.done =
    ap (λ t. vec_capacity t.done) e.worker_result in
    let many = row_pushed b.handles.items filled mine.permits in
    record {
      laid = front (λ b. IsLaid n filled (context_tag b)) l.left.items left.items b pop i.laid;
      len = omega (arith, put.len, c.in-Some.ensures.cases, i.len);
      len_rows = omega (arith, put.len, put'.len, i.len_rows);
      room = omega (arith, put.capacity, i.room);
      room_rows = omega (arith, put'.capacity, i.room_rows);
      order = moved finished_deque context_deque l.left.items left.items b l.finished.items
          c.push_reserved.new.self.items ended
          filled pop put.items (ap owner_deque e.owner) i.order;
      finished =
          grown (IsAway n (pushed_count filled)) l.finished.items c.push_reserved.new.self.items ended put.items
          i.finished
          (record {
            parts = ap (λ k. k + n) parts ∙ mine.parts;
            none = e.none;
            share = ap (λ t. t.share.parts) e.worker_result ∙ mine.share;
            room_is = omega (arith, b.room);
          });
      rows = grown (IsRow filled) l.rows.items c.push_reserved-in-Some.new.self.items row put'.items i.rows permits;
      kept = λ h. (
          let s = sum_grown (finished_kept h) l.finished.items c.push_reserved.new.self.items ended put.items in
          let t = sum_grown (finished_taken h) l.finished.items c.push_reserved.new.self.items ended put.items in
          let u = sum_grown (λ row. taken_by h row.items) l.rows.items c.push_reserved-in-Some.new.self.items row
          put'.items in
          let k : finished_kept h ended ≡ kept h b.worker_result = ap (kept h) e.worker_result in
          let o : finished_taken h ended ≡ sum_by h (worker_view b.owner).taken =
          ap (λ w. sum_by h (worker_view {V = Tally} w).taken) e.owner in
          let w : taken_by h row.items ≡ taken_by h b.handles.items = ap (λ v. taken_by h v.items) e.handles in
          omega (arith, i.kept h, b.matched h));
    }
