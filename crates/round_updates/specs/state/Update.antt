-- The pods of a node take what waits for them into their statuses, and what that makes of the totals.
use Rattle.std.specs.Prelude.{◌≡◌, ℕ, ◌<◌, ◌≤◌, Bool, List, length, slice_get, slice_set, Some}
use Rattle.observations.specs.rule.Limits.{most_pods}
use Rattle.pod_piece.specs.rule.Piece.{Piece}
use Rattle.pod_piece.specs.state.Piece.{all_updated}
use Rattle.totals.specs.declared.totals.Entry.{Entry}
use Rattle.totals.specs.declared.totals.Totals.{Totals}
use Rattle.totals.specs.state.Totals.{AreEntriesOf, sums_of, plus}
use Rattle.totals.specs.state.Rounds.{IsAdditionOf}
use Rattle.totals.specs.state.Limits.{IsLowAddition, AreLow}
use Rattle.worker_results.specs.state.Gated.{WereGated}

-- none of the totals passes this
pub record AreUpTo (most : ℕ) (totals : Totals) : Type 0 where
  pub updates : totals.updates ≤ most
  pub events : totals.events ≤ most
  pub orders : totals.orders ≤ most

-- the pods may be updated: ticks wait for each of them, and the totals leave room
pub record MayUpdate (pieces : List Piece) (totals : Totals) : Type 0 where
  pub few : length pieces ≤ most_pods
  pub pending : (n : ℕ) (piece : Piece) → slice_get pieces n ≡ Some piece → 0 < piece.waiting
  pub room : AreLow totals

-- one update of each pod, with the entry of its last tick
pub record AreEntered (pieces : List Piece) (old new : Totals) : Type 0 where
  pub entries : List Entry
  pub are_entries : AreEntriesOf pieces entries
  pub totals : new ≡ plus old (sums_of entries)

-- what the round of a pod adds
pub record IsAdded (piece : Piece) (old new : Totals) : Type 0 where
  pub addition : Totals
  pub is_addition : IsAdditionOf piece addition
  pub low : IsLowAddition addition
  pub totals : new ≡ plus old addition

-- a gate has made the updates of the pod with the number, by all that waits for it
abbrev pub IsGatedAt : (Piece → Bool → Bool) → List Piece → ℕ → Type 0
IsGatedAt left pieces number =
    (piece : Piece) → slice_get pieces number ≡ Some piece → WereGated left piece.waiting (all_updated piece)

-- the pod with the number has taken all that waited for it, and was entered
pub record UpdatesAt (old : List Piece) (number : ℕ) (before : Totals) (new : List Piece)
    (after : Totals) : Type 0 where
  pub piece : Piece
  pub at : slice_get old number ≡ Some piece
  pub set : new ≡ slice_set old number (all_updated piece)
  pub added : IsAdded (all_updated piece) before after
