-- A round on its way: what each step needs, and what it keeps.
use Rattle.std.specs.Prelude.{◌≡◌, ℕ, ◌+◌, ◌*◌, ◌<◌, ◌≤◌, ◌^◌, List, length, map, slice_get, Some}
use Rattle.round_steps.specs.declared.step.Step.{Step}
use Rattle.observations.specs.rule.Limits.{most_pods}
use Rattle.pod_piece.specs.rule.Piece.{Piece, updated}
use Rattle.totals.specs.declared.totals.Entry.{Entry}
use Rattle.totals.specs.state.Totals.{IsEntryOf, plus, one_update}
use Rattle.event_book.specs.state.Shares.{AreWithin}
use Rattle.totals.specs.state.Limits.{IsLow, most_events}
use Rattle.round_core.specs.declared.hand.Hand.{Hand}
use Rattle.round_core.specs.declared.hand.Hand.TheVariants.{Empty, Taken, Updated}
use Rattle.round_core.specs.state.Pool.{PoolState, worker_at, entry_at, run}
use Rattle.round_core.specs.state.Places.{places, times_marked, pool_weight, finished_weight}
use Rattle.played_round.specs.state.Table.{TableState, IsWaiting, IsUpdate}
use Rattle.played_round.specs.state.Round.{RoundState}

-- what is in the hand of a worker may be updated
abbrev pub CanUpdate : RoundState → ℕ → Type 0
CanUpdate round w = (n : ℕ) → (worker_at round.pool w).hand ≡ Taken n → IsWaiting round.table n

-- the pieces, once what is in a hand is updated
abbrev pub IsUpdateOf : Hand → TableState → TableState → Type 0
IsUpdateOf Empty before after = after ≡ before
IsUpdateOf (Taken n) before after = IsUpdate n before after
IsUpdateOf (Updated n) before after = after ≡ before

-- the entry of a piece in the table, and room for it in the book
pub record HasRoom (round : RoundState) (n : ℕ) : Type 0 where
  pub has_entry : n < length round.table.entries
  pub within : AreWithin (plus round.pool.book (one_update (entry_at round.table.entries n)))

-- what is in the hand of a worker may be entered
abbrev pub CanEnter : RoundState → ℕ → Type 0
CanEnter round w = (n : ℕ) → (worker_at round.pool w).hand ≡ Updated n → HasRoom round n

-- each finished piece has added at most one update, and no more than the most events of one
pub record HasGrown (pool : PoolState) : Type 0 where
  pub updates : pool.book.updates ≤ 2 ^ 62 + finished_weight (λ _. 1) pool
  pub events : pool.book.events ≤ 2 ^ 62 + most_events * finished_weight (λ _. 1) pool
  pub orders : pool.book.orders ≤ 2 ^ 62 + most_events * finished_weight (λ _. 1) pool

-- what holds after each step: each piece is at one place, and waits for its update as long as no mark shows that it had
-- it
pub record Stands (round : RoundState) : Type 0 where
  pub as_many : length round.table.entries ≡ length round.table.pieces
  pub one_place : (n : ℕ) → n < length round.table.pieces → places n round.pool ≡ 1
  pub no_stranger : (n : ℕ) → length round.table.pieces ≤ n → places n round.pool ≡ 0
  pub waits : (n : ℕ) (piece : Piece) → slice_get round.table.pieces n ≡ Some piece
      → times_marked n round.pool ≡ 0 → piece.waiting ≡ 1
  pub is_done : (n : ℕ) (piece : Piece) (entry : Entry) → slice_get round.table.pieces n ≡ Some piece
      → slice_get round.table.entries n ≡ Some entry → 0 < times_marked n round.pool
      → (piece.waiting ≡ 0) × IsEntryOf piece entry
  pub are_low : (n : ℕ) → IsLow (entry_at round.table.entries n)
  pub few : pool_weight (λ _. 1) round.pool ≤ most_pods
  pub grown : HasGrown round.pool

-- these are the entries of the pieces that are updated
abbrev pub Agrees : List Entry → RoundState → Type 0
Agrees entries round =
    (n : ℕ) → 0 < times_marked n round.pool → entry_at entries n ≡ entry_at round.table.entries n

-- the entries of the pieces that are updated now are also the entries of the earlier ones, and the steps lead from one
-- state of the workers to the other by them
pub record Follows (entries : List Entry) (before : RoundState) (steps : List Step) (after : RoundState) : Type 0 where
  pub agrees : Agrees entries before
  pub leads : after.pool ≡ run entries before.pool steps

-- these steps were taken
pub record Plays (before : RoundState) (steps : List Step) (after : RoundState) : Type 0 where
  pub stands : Stands after
  pub pieces : map updated after.table.pieces ≡ map updated before.table.pieces
  pub follows : (entries : List Entry) → Agrees entries after → Follows entries before steps after
