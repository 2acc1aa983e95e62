-- What a clause says of an owner's end.
use Rattle.std.specs.Prelude.{◌≡◌, ℕ, ◌<◌, ◌≤◌, []}
use Rattle.std.specs.List.{sum_by}
use Rattle.crossbeam_deque.specs.Handles.{worker_capacity, worker_flavor, worker_index, worker_view}
use Rattle.crossbeam_deque.specs.declared.handles.Worker.{Worker}
use Rattle.piece_deques.specs.declared.rule.Tally.{Tally}
use Rattle.piece_deques.specs.state.Rule.{all_parts}

-- the end of a first in first out deque, with a part
pub record IsOwner {T A P : Type 0} (owner : Worker T A Tally P) : Type 0 where
  pub in_order : worker_flavor owner ≡ 0
  pub some : 0 < (worker_view owner).parts

-- an owner without any permits, which has taken nothing, has room for this many pieces and was given at most this many
pub record IsOpen {T A P : Type 0} (room most : ℕ) (owner : Worker T A Tally P) : Type 0 where
  pub is_owner : IsOwner owner
  pub alone : (worker_view owner).parts ≡ all_parts
  pub none : (worker_view owner).taken ≡ []
  pub room_is : room ≤ worker_capacity owner
  pub few : worker_index owner ≤ most

-- the numbers of the pieces that were pushed, weighed and added up
abbrev pub pushed_weight : {T A P : Type 0} → (ℕ → ℕ) → Worker T A Tally P → ℕ
pushed_weight weight owner = sum_by weight (worker_view owner).pushed
