-- A round of workers over the pieces of a table: its start and its end.
use Rattle.std.specs.Prelude.{◌≡◌, ℕ, ◌≤◌, List, length, map, replicate, All}
use Rattle.round_steps.specs.declared.step.Step.{Step}
use Rattle.observations.specs.rule.Limits.{most_pods}
use Rattle.pod_piece.specs.rule.Piece.{Piece, updated}
use Rattle.totals.specs.state.Limits.{AreLow}
use Rattle.totals.specs.declared.totals.Entry.{Entry}
use Rattle.totals.specs.declared.totals.Totals.{Totals}
use Rattle.totals.specs.state.Totals.{sums_of, AreEntriesOf}
use Rattle.round_core.specs.state.Pool.{PoolState, idle, no_entry, deal, after_drain, finished_lists}
use Rattle.round_core.specs.state.Places.{sum_of_shares}
use Rattle.played_round.specs.state.Table.{TableState}

-- the pieces, and the workers with the book
pub record RoundState : Type 0 where
  pub table : TableState
  pub pool : PoolState

-- these pieces with these workers
abbrev pub round_of : TableState → PoolState → RoundState
round_of table pool = record { table = table; pool = pool }

-- the same pieces with other workers
abbrev pub with_pool : RoundState → PoolState → RoundState
with_pool round pool = round_of round.table pool

-- the workers of a deal with a book with these totals
abbrev pub dealt : ℕ → ℕ → Totals → PoolState
dealt workers pieces book = record { workers = (deal workers pieces).workers; book = book }

-- a round that may be simulated: all its pieces wait, and its workers have nothing to do
pub record IsFresh (workers : ℕ) (round : RoundState) : Type 0 where
  pub pending : All (λ (piece : Piece). piece.waiting ≡ 1) round.table.pieces
  pub few : length round.table.pieces ≤ most_pods
  pub blank : round.table.entries ≡ replicate (length round.table.pieces) no_entry
  pub are_idle : round.pool.workers ≡ replicate workers idle
  pub low : AreLow round.pool.book

-- what a round leaves that was simulated by these steps and drained: each piece is updated, the shares add up to the
-- entries of the pieces, and the workers have finished what they do whatever the entries are
pub record IsWhole (before : RoundState) (workers : ℕ) (steps : List Step) (after : RoundState) : Type 0 where
  pub as_many : length after.pool.workers ≡ workers
  pub pieces : after.table.pieces ≡ map updated before.table.pieces
  pub entries : AreEntriesOf after.table.pieces after.table.entries
  pub shares : sum_of_shares after.pool.workers ≡ sums_of after.table.entries
  pub finished : (entries : List Entry) → length entries ≡ length before.table.pieces
      → finished_lists after.pool ≡ finished_lists (after_drain entries workers steps)
