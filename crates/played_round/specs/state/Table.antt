-- The pieces of a round, and what their updates add to the totals.
use Rattle.std.specs.Prelude.{◌≡◌, ℕ, ◌<◌, List, length, slice_get, slice_set, Some}
use Rattle.pod_piece.specs.rule.Piece.{Piece, updated}
use Rattle.totals.specs.state.Limits.{IsLow}
use Rattle.totals.specs.declared.totals.Entry.{Entry}
use Rattle.totals.specs.state.Totals.{IsEntryOf}

-- the pieces by their numbers, and what the update of each adds
pub record TableState : Type 0 where
  pub pieces : List Piece
  pub entries : List Entry

-- the piece with this number is still to be updated
pub record IsWaiting (table : TableState) (number : ℕ) : Type 0 where
  pub piece : Piece
  pub stands : slice_get table.pieces number ≡ Some piece
  pub pending : piece.waiting ≡ 1
  pub has_entry : number < length table.entries

-- the piece with this number is updated, and its entry noted
pub record IsUpdate (number : ℕ) (before after : TableState) : Type 0 where
  pub piece : Piece
  pub stood : slice_get before.pieces number ≡ Some piece
  pub pending : piece.waiting ≡ 1
  pub pieces : after.pieces ≡ slice_set before.pieces number (updated piece)
  pub entry : Entry
  pub is_entry : IsEntryOf (updated piece) entry
  pub is_low : IsLow entry
  pub entries : after.entries ≡ slice_set before.entries number entry
