-- Contexts, finished workers and rows.
use Rattle.std.proofs.Common.{◌≡◌, ℕ, ◌<◌, ◌≤◌, List, [], ◌∷◌, ◌++◌, map, length, sym, refl, subst, arith}
use Rattle.std.specs.List.{sum_by}
use Rattle.std.proofs.lemmas.List.{length-map}
use Rattle.std.proofs.lemmas.List.Sums.{sum_by-cons}
use mathlib.Core.Option.{some}
use lib.ListN.{get_elem?}
use Rattle.crossbeam_deque.specs.Handles.{worker_view}
use Rattle.crossbeam_deque.proofs.Lists.{at_last, at_longer, at_map}
use Rattle.piece_deques.proofs.Lists.{ones, place_within}
use Rattle.worker_results.specs.declared.handle.StealHandle.{StealHandle}
use Rattle.worker_results.specs.state.WorkerResults.{HasRoomForOne}
use Rattle.pool_workers.specs.state.Permits.{FilledDeque, permit_deque, pushed_count, pushed_sum}
use Rattle.pool_workers.specs.declared.finished_worker.FinishedWorker.{FinishedWorker}
use Rattle.pool_workers.specs.state.FinishedWorkers.{StandAt, finished_deque, finished_pushed, finished_taken}

pub filled_ones : (filled : List FilledDeque) → pushed_count filled ≡ pushed_sum (λ _. 1) filled
filled_ones [] = refl
filled_ones (p ∷ ps) =
    let ended = filled_ones ps in
    let o = ones p.pushed in
    let a = sum_by-cons (λ (p : FilledDeque). length p.pushed) p ps in
    let b = sum_by-cons (λ (p : FilledDeque). sum_by (λ _. 1) p.pushed) p ps in
    omega arith

module _ {D : Type 0} where
  pub stands : (row : List (StealHandle D)) (filled : List FilledDeque) → map permit_deque row ≡ filled
      → StandAt row filled
  stands row filled e k r at =
      subst (λ (l : List FilledDeque). get_elem? l k ≡ some (permit_deque r)) e (at_map permit_deque row k r at)

  pub others_stand : (row ended : List (StealHandle D)) (r : StealHandle D) (filled now : List FilledDeque)
      → row ≡ ended ++ r ∷ []
      → now ≡ filled → StandAt row filled → StandAt ended now
  others_stand row ended r filled now e same stand k s at =
      subst (λ (l : List FilledDeque). get_elem? l k ≡ some (permit_deque s)) (sym same)
      (stand k s
      (subst (λ (l : List (StealHandle D)). get_elem? l k ≡ some s) (sym e) (at_longer ended (r ∷ []) k s at)))

module _ {D U E O : Type 0} {g : _} where
  -- no more was taken than pushed
  pub few_taken : (finished : List (FinishedWorker D U E O g))
      → sum_by (finished_taken (λ _. 1)) finished ≤ sum_by (finished_pushed (λ _. 1)) finished
  few_taken [] = omega arith
  few_taken (r ∷ rs) =
      let ended = few_taken rs in
      let f = r.few in
      let a = ones (worker_view r.owner).taken in
      let b = ones (worker_view r.owner).pushed in
      omega (arith, sum_by-cons (finished_taken (λ _. 1)) r rs, sum_by-cons (finished_pushed (λ _. 1)) r rs)

  -- the last permit of a row stands at the place of a worker, the last one
  pub last_place : (row left : List (StealHandle D)) (r : StealHandle D) (finished : List (FinishedWorker D U E O g))
      (n : ℕ) → row ≡ left ++ r ∷ [] → length left ≡ n → StandAt row (map finished_deque finished)
      → (n < length finished) × (get_elem? (map finished_deque finished) n ≡ some (permit_deque r))
  last_place row left r finished n e len stand =
      let there =
      stand n r (subst (λ (l : List (StealHandle D)). get_elem? l n ≡ some r) (sym e) (at_last left r n len)) in (
        omega (
          arith,
          place_within (map finished_deque finished) n _ there,
          length-map finished finished_deque,
        ),
        there,
      )

  -- where not all is taken that was pushed, there is room for one piece more of each kind
  pub room_left : (ended : FinishedWorker D U E O g)
      → length (worker_view ended.owner).taken < length (worker_view ended.owner).pushed
      → HasRoomForOne ended.worker_result
  room_left ended more =
      let w = ended.worker_result in
      let a = ones w.done.items in
      let b = ones w.uncounted.items in
      let room = ended.room in
      (omega (arith, w.done.ok.0), omega (arith, w.uncounted.ok.0, ended.room_uncounted))
