-- What the rounds of pieces add to the totals.
use Rattle.std.specs.Prelude.{◌≡◌, ℕ, Bool, List, length, slice_get, Some}
use Rattle.std.specs.List.{filter, sum_by}
use Rattle.pod_piece.specs.rule.Piece.{Piece}
use Rattle.pod_piece.specs.state.Made.{MadeEvent, round_length, AreRoundEvents}
use Rattle.totals.specs.declared.totals.Entry.{Entry}
use Rattle.totals.specs.declared.totals.Totals.{Totals}
use Rattle.totals.specs.rule.Totals.{is_order}
use Rattle.totals.specs.state.Totals.{plus}

abbrev pub is_made_order : MadeEvent → Bool
is_made_order made = is_order made.event

-- what these events add to the totals
abbrev pub entry_of_made : List MadeEvent → Entry
entry_of_made made = record { events = length made; orders = length (filter is_made_order made) }

-- what a round of this many updates with these events adds to the totals
abbrev pub addition_of : ℕ → List MadeEvent → Totals
addition_of updates made = record {
  updates = updates;
  events = length made;
  orders = length (filter is_made_order made);
}

-- what the round of a piece adds to the totals
abbrev pub IsAdditionOf : Piece → Totals → Type 0
IsAdditionOf piece totals =
    (made : List MadeEvent) × AreRoundEvents piece made × (totals ≡ addition_of (round_length piece) made)

-- what the round of each of these pieces adds
pub record AreAdditionsOf (pieces : List Piece) (additions : List Totals) : Type 0 where
  pub as_many : length additions ≡ length pieces
  pub each : (n : ℕ) (piece : Piece) (addition : Totals) → slice_get pieces n ≡ Some piece
      → slice_get additions n ≡ Some addition → IsAdditionOf piece addition

-- what these totals add up to
abbrev pub sums_of_additions : List Totals → Totals
sums_of_additions additions = record {
  updates = sum_by (λ (t : Totals). t.updates) additions;
  events = sum_by (λ (t : Totals). t.events) additions;
  orders = sum_by (λ (t : Totals). t.orders) additions;
}

-- to the totals was added what the rounds of these pieces add
pub record AreAdded (pieces : List Piece) (old new : Totals) : Type 0 where
  pub additions : List Totals
  pub are_additions : AreAdditionsOf pieces additions
  pub totals : new ≡ plus old (sums_of_additions additions)
