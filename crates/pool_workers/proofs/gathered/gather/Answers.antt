use Rattle.std.proofs.Common.{◌≡◌, ◌+◌, ◌*◌, ◌≤◌, None, map, length, vec_len, vec_capacity, sym, ap, ◌∙◌, arith}
use Rattle.std.specs.List.{sum_by}
use Rattle.std.proofs.lemmas.List.{length-map}
use Rattle.std.proofs.lemmas.List.Elements.{All-weaker}
use Rattle.piece_deques.specs.state.Rule.{all_parts}
use Rattle.piece_deques.proofs.Lists.{all_by, all_full, all_less, ones, sum_map, sum_same}
use Rattle.worker_results.specs.state.WorkerResults.{kept}
use Rattle.pool_workers.specs.state.Permits.{FilledDeque, pushed_count, pushed_sum}
use Rattle.pool_workers.specs.state.Contexts.{context_deque}
use Rattle.pool_workers.proofs.Laid.{are_laid, laid_pushed}
use Rattle.pool_workers.specs.state.FinishedWorkers.{IsAway, finished_deque, finished_parts, finished_kept}
use Rattle.pool_workers.specs.state.FinishedWorkers.{finished_pushed}
use Rattle.pool_workers.proofs.FinishedWorkers.{filled_ones}
use Rattle.pool_workers.proofs.gathered.gather.Goals as goal

pub take_all_apart-requires-clause-laid : goal.take_all_apart-requires-clause-laid
take_all_apart-requires-clause-laid g c =
    let contexts = c.args.contexts in
    are_laid g.D.Deal.all contexts.items (vec_len contexts) contexts.ok.0 c.requires.laid

pub collect-requires-clause-whole : goal.collect-requires-clause-whole
collect-requires-clause-whole g c κs within =
    let contexts = c.args.contexts in
    let n = vec_len contexts in
    let filled = map context_deque contexts.items in
    let pushed = laid_pushed g.D.Deal.all contexts.items c.requires.laid in
    let first = c.take_all_apart.new.finished in
    let finished = c.absorb_all.new.finished in
    let p = c.in-Ok.ensures in
    let a = c.absorb_all.ensures in
    let away = IsAway n (pushed_count filled) in
    let many : pushed_count filled ≡ length g.D.Deal.all = filled_ones filled ∙ (pushed (λ _. 1) ∙ ones g.D.Deal.all) in
    let less = all_less finished_parts n first.items
    (All-weaker away (λ r. finished_parts r + n ≡ all_parts) (λ r h. h.parts) first.items p.finished) in
    let same : length finished.items ≡ length first.items =
    sym (length-map finished.items finished_deque)
    ∙ (ap (λ l. length l) a.filled ∙ length-map first.items finished_deque) in
    let rows : vec_len c.take_all_apart.new.rows * vec_len first ≡ length first.items * n =
    (λ k. p.len_rows k * p.len k) ∙ ap (λ k. k * n) (sym p.len ∙ first.ok.0) in
    let full = all_full finished_parts finished.items (λ r. r.bounded) (omega (arith, a.parts, same)) in
    let kept = all_by (λ r. r.worker_result)
    (λ t. (t.refused ≡ None) × (t.share.parts ≡ 1)
    × (pushed_count filled ≤ vec_capacity t.done)) first.items finished.items
    a.worker_results
    (All-weaker away
    (λ r. (r.worker_result.refused ≡ None) × (r.worker_result.share.parts ≡ 1)
    × (pushed_count filled ≤ vec_capacity r.worker_result.done))
    (λ r h. (h.none, h.share, h.room_is)) first.items p.finished) in
    λ k d in'. (
    let f = full k d in' in
    let h = kept k d in' in
    record { parts = omega arith; none = h.0; share = h.1; room_is = omega (arith, h.2) })

pub collect-requires-clause-each : goal.collect-requires-clause-each
collect-requires-clause-each g c κs within = λ weight. (
    let pushed = laid_pushed g.D.Deal.all c.args.contexts.items c.requires.laid weight in
    let first = c.take_all_apart.new.finished.items in
    let finished = c.absorb_all.new.finished.items in
    let p = c.in-Ok.ensures in
    let a = c.absorb_all.ensures in
    let k : sum_by (finished_kept weight) finished ≡ sum_by (finished_kept weight) first =
    sum_same (λ r. r.worker_result) (λ t. kept weight t) finished first a.worker_results in
    let s : pushed_sum weight (map finished_deque finished) ≡ sum_by (finished_pushed weight) finished =
    sum_map finished_deque (λ (p : FilledDeque). sum_by weight p.pushed) finished in
    let t = ap (pushed_sum weight) (a.filled ∙ p.filled) in
    omega (arith, p.kept weight, a.taken weight))
