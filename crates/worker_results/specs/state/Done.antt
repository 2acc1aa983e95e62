-- Pieces that were updated and entered.
use Rattle.std.specs.Prelude.{◌≡◌, ℕ, ◌*◌, ◌<◌, ◌≤◌, List, length, map, slice_get, Some, All, option_map, unwrap_or}
use Rattle.std.specs.List.{sum_by}
use Rattle.pod_piece.specs.rule.Piece.{Piece}
use Rattle.pod_piece.specs.state.Piece.{all_updated}
use Rattle.totals.specs.declared.totals.Totals.{Totals}
use Rattle.totals.specs.state.Rounds.{IsAdditionOf}
use Rattle.totals.specs.state.Limits.{most_updates, most_round_events}

-- it is the piece of the list under its number, with all ticks that waited taken into its status
abbrev pub IsDone : List Piece → Piece → Type 0
IsDone all piece = slice_get (map all_updated all) piece.number ≡ Some piece

-- the piece where so many ticks wait
abbrev pub with_waiting : ℕ → Piece → Piece
with_waiting n piece = record piece { waiting = n }

-- it is this piece with its first waiting ticks taken into its status, or none of them, and still pending
pub record IsLeftFrom (dealt piece : Piece) : Type 0 where
  pub is : piece ≡ with_waiting piece.waiting dealt
  pub pending : 0 < piece.waiting
  pub fewer : piece.waiting ≤ dealt.waiting

-- how many ticks wait in the piece of these with the number
abbrev pub waiting_at : List Piece → ℕ → ℕ
waiting_at all n = unwrap_or (option_map (λ (piece : Piece). piece.waiting) (slice_get all n)) 0

-- it is left so of the piece of the list under its number
pub record IsLeftOf (all : List Piece) (piece : Piece) : Type 0 where
  pub is : option_map (with_waiting piece.waiting) (slice_get all piece.number) ≡ Some piece
  pub pending : 0 < piece.waiting
  pub fewer : piece.waiting ≤ waiting_at all piece.number

-- where one tick waited in the piece of the list, it is left as it was dealt
abbrev pub LeftAsDealt : Type 0
LeftAsDealt =
    (all : List Piece) (dealt piece : Piece) → IsLeftOf all piece → slice_get all piece.number ≡ Some dealt
    → dealt.waiting ≡ 1 → piece ≡ dealt

-- the numbers of pieces, weighed and added up
abbrev pub weigh : (ℕ → ℕ) → List Piece → ℕ
weigh weight pieces = sum_by (λ (piece : Piece). weight piece.number) pieces

-- the round of each piece adds this
abbrev pub HaveAdditions : (Piece → Totals) → List Piece → Type 0
HaveAdditions addition pieces = All (λ (piece : Piece). IsAdditionOf piece (addition piece)) pieces

-- these additions of the pieces, added up
pub record AddUp (addition : Piece → Totals) (pieces : List Piece) (totals : Totals) : Type 0 where
  pub updates : totals.updates ≡ sum_by (λ (piece : Piece). (addition piece).updates) pieces
  pub events : totals.events ≡ sum_by (λ (piece : Piece). (addition piece).events) pieces
  pub orders : totals.orders ≡ sum_by (λ (piece : Piece). (addition piece).orders) pieces

-- these totals are what the rounds of the pieces add up to, each of which adds little
pub record AreSumsOf (pieces : List Piece) (totals : Totals) : Type 0 where
  pub sums : (addition : Piece → Totals) → HaveAdditions addition pieces → AddUp addition pieces totals
  pub few_updates : totals.updates ≤ length pieces * most_updates
  pub few_events : totals.events ≤ length pieces * most_round_events
  pub few_orders : totals.orders ≤ length pieces * most_round_events
