-- What is added to totals and shares by pieces.
use Rattle.std.specs.Prelude.{◌≡◌, Bool, List, map}
use Rattle.pod_piece.specs.rule.Piece.{Piece}
use Rattle.pod_piece.specs.state.Piece.{all_updated}
use Rattle.totals.specs.declared.totals.Totals.{Totals}
use Rattle.totals.specs.state.Totals.{plus}
use Rattle.totals.specs.state.Rounds.{AreAdditionsOf, sums_of_additions}
use Rattle.event_book.specs.state.Shares.{ShareState, most_parts, share_with}
use Rattle.worker_results.specs.state.Done.{AreSumsOf}
use Rattle.worker_results.specs.state.Gated.{AreGated}

-- what the rounds of these pieces add was added
pub record AreAdded (pieces : List Piece) (old new : Totals) : Type 0 where
  pub added : Totals
  pub are_sums : AreSumsOf pieces added
  pub is : new ≡ plus old added

-- the share is a whole one, with the totals of this one and what the rounds of these pieces add
abbrev pub HasEntered : List Piece → ShareState → ShareState → Type 0
HasEntered pieces old new =
    (additions : List Totals) × AreAdditionsOf pieces additions
    × (new ≡ share_with most_parts (plus old.totals (sums_of_additions additions)))

-- the pieces of a round are back, updated by the gate and in their order, and the share has what they add
pub record IsRoundDone (left : Piece → Bool → Bool) (all : List Piece) (old : ShareState) (pieces : List Piece)
    (new : ShareState) : Type 0 where
  pub are_updated : pieces ≡ map all_updated all
  pub entered : HasEntered pieces old new
  pub gated : AreGated left all
