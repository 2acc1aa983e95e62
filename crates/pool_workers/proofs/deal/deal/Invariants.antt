use Rattle.std.proofs.Common.{◌≡◌, ◌+◌, ◌-◌, ◌<◌, ◌≤◌, ℕ, All, map, reverse, vec_len}
use Rattle.std.specs.List.{sum_by}
use Rattle.crossbeam_deque.specs.Handles.{worker_deque}
use Rattle.piece_deques.specs.state.Rule.{number_of, IsPieceDue}
use Rattle.piece_deques.specs.state.Ends.{IsOpen, pushed_weight}
use Rattle.worker_results.specs.state.Done.{weigh}
use Rattle.pool_workers.specs.state.Dealing.{deal, pushed_of}
use Rattle.pool_workers.proofs.deal.deal.Given as goal

abbrev pub invariant-loop-piece : goal.invariant-loop-piece
invariant-loop-piece g l = record {
  due : All (IsPieceDue g.D.Deal.all) l.left.items;
  within : vec_len l.left ≤ vec_len l.initial.left;
  some : 0 < vec_len l.owners;
  deques : map worker_deque l.owners.items ≡ map worker_deque l.initial.owners.items;
  opened : All (IsOpen (vec_len l.initial.left) (vec_len l.initial.left - vec_len l.left)) l.owners.items;
  dealt : deal (map pushed_of l.owners.items) (map number_of (reverse l.left.items))
      ≡ deal (map pushed_of l.initial.owners.items) (map number_of (reverse l.initial.left.items));
  pushed : (weight : ℕ → ℕ) → sum_by (pushed_weight weight) l.owners.items + weigh weight l.left.items
      ≡ sum_by (pushed_weight weight) l.initial.owners.items + weigh weight l.initial.left.items;
}

abbrev pub decreases-loop-piece : goal.decreases-loop-piece
decreases-loop-piece g l = vec_len l.left
