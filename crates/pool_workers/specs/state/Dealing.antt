-- The deal of a round: piece i is in deque i mod workers, after the pieces that were dealt before it.
use Rattle.std.specs.Prelude.{◌≡◌, ℕ, ◌%◌, ◌==◌, ◌<◌, List, [], ◌∷◌, ◌++◌, length, map, filter, replicate}
use Rattle.std.specs.Prelude.{slice_set, slice_index_or}
use Rattle.crossbeam_deque.specs.Handles.{worker_view}
use Rattle.crossbeam_deque.specs.declared.handles.Worker.{Worker}
use Rattle.pod_piece.specs.rule.Piece.{Piece}
use Rattle.piece_deques.specs.declared.rule.Tally.{Tally}
use Rattle.piece_deques.specs.state.Rule.{number_of}

-- one number more, at the end of the list that it names: what it leaves, divided by how many lists there are
abbrev pub give : List (List ℕ) → ℕ → List (List ℕ)
give lists n = slice_set lists (n % length lists) (slice_index_or lists (n % length lists) [] ++ n ∷ [])

-- and all of these, in their order
abbrev pub deal : List (List ℕ) → List ℕ → List (List ℕ)
deal lists [] = lists
deal lists (n ∷ ns) = deal (give lists n) ns

-- the numbers of the pieces that were pushed to a deque, in their order
abbrev pub pushed_of : {T A P : Type 0} → Worker T A Tally P → List ℕ
pushed_of owner = (worker_view owner).pushed

-- what this many empty deques are dealt of these pieces
abbrev pub dealt_to : ℕ → List Piece → List (List ℕ)
dealt_to workers pieces = deal (replicate workers []) (map number_of pieces)

-- a worker is dealt just the numbers that leave its own, divided by how many workers there are, in their order
abbrev pub DealtByRemainder : Type 0
DealtByRemainder =
    (workers w : ℕ) (numbers : List ℕ) → w < workers
    → slice_index_or (deal (replicate workers []) numbers) w [] ≡ filter (λ n. (n % workers) == w) numbers
