-- The pieces of a round.
use Rattle.std.specs.Prelude.{◌≡◌, ℕ, List, length}
use Rattle.pod_piece.specs.rule.Piece.{Piece}
use Rattle.event_book.specs.state.Shares.{ShareState, most_parts}
use Rattle.totals.specs.state.Limits.{AreLow}
use Rattle.case_runner.specs.state.Pods.{ArePending}

-- this many pieces, numbered from 0 on, that are to be updated
pub record AreFirst (count : ℕ) (pieces : List Piece) : Type 0 where
  pub as_many : length pieces ≡ count
  pub are_pending : ArePending pieces

-- the whole share of a book, with room for a round
pub record IsWholeShare (share : ShareState) : Type 0 where
  pub whole : share.parts ≡ most_parts
  pub low : AreLow share.totals

-- ledgers of which each share can be cut into that many parts
pub record AreLevel (updates events orders : ℕ) : Type 0 where
  pub level : (updates ≡ most_parts) × (events ≡ most_parts) × (orders ≡ most_parts)
