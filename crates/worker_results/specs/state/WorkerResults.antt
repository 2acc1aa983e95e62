-- What a worker keeps.
use Rattle.std.specs.Prelude.{◌≡◌, ℕ, ◌+◌, ◌<◌, ◌≤◌, vec_len, vec_capacity}
use Rattle.std.specs.Option.{option_to_list}
use Rattle.pod_piece.specs.rule.Piece.{Piece}
use Rattle.worker_results.specs.declared.worker_result.WorkerResult.{WorkerResult}
use Rattle.worker_results.specs.state.Done.{weigh}

-- the numbers of all pieces that it keeps, weighed and added up
abbrev pub kept : {D U E O : Type 0} {g : _} → (ℕ → ℕ) → WorkerResult D U E O g → ℕ
kept weight worker_result =
    weigh weight worker_result.done.items + weigh weight worker_result.uncounted.items + weigh weight
    (option_to_list worker_result.refused)

-- its vectors take one piece more, each of them
abbrev pub HasRoomForOne : {D U E O : Type 0} {g : _} → WorkerResult D U E O g → Type 0
HasRoomForOne worker_result =
    (vec_len worker_result.done < vec_capacity worker_result.done)
    × (vec_len worker_result.uncounted < vec_capacity worker_result.uncounted)

-- and all that another one has
abbrev pub HasRoomFor : {D U E O : Type 0} {g : _} → WorkerResult D U E O g → WorkerResult D U E O g → Type 0
HasRoomFor other worker_result =
    (vec_len worker_result.done + vec_len other.done ≤ vec_capacity worker_result.done)
    × (vec_len worker_result.uncounted + vec_len other.uncounted ≤ vec_capacity worker_result.uncounted)

-- it keeps one piece more, in the room that it had, and its share has the parts that it had
pub record KeepsOneMore {D U E O : Type 0} {g : _} (piece : Piece) (old new : WorkerResult D U E O g) : Type 0 where
  pub kept_is : (weight : ℕ → ℕ) → kept weight new ≡ kept weight old + weight piece.number
  pub room : vec_capacity new.done ≡ vec_capacity old.done
  pub room_uncounted : vec_capacity new.uncounted ≡ vec_capacity old.uncounted
  pub parts : new.share.parts ≡ old.share.parts
