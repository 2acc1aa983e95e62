use Rattle.std.proofs.Common.{arith, ap, vec_capacity}
use Rattle.crossbeam_deque.specs.Handles.{worker_view}
use Rattle.piece_deques.proofs.Lists.{ones}
use Rattle.worker_results.specs.state.WorkerResults.{kept}
use Rattle.pool_workers.specs.state.Permits.{owner_deque}
use Rattle.pool_workers.proofs.Room.{no_more_of_others}
use Rattle.pool_workers.proofs.take_apart.take_apart.Goals as goal

pub invariant_of-result-clause-room : goal.invariant_of-result-clause-room
invariant_of-result-clause-room g c =
    let b = c.args.context in
    let m = b.matched (λ _. 1) in
    let o = ones (worker_view b.owner).taken in
    let n = no_more_of_others (owner_deque b.owner) b.own b.handles.items b.unused in
    let r = b.room in
    let k = ap (kept (λ _. 1)) c.in-Ok.ensures.ok in
    let v = ap (λ t. vec_capacity t.done) c.in-Ok.ensures.ok in
    omega arith
