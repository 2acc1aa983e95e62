-- What an update adds to the totals, and sums of that.
use Rattle.std.specs.Prelude.{◌≡◌, ℕ, ◌+◌, List, length, slice_get, Some}
use Rattle.std.specs.List.{filter, sum_by}
use Rattle.pod_state.specs.declared.events.PodEvent.{PodEvent}
use Rattle.pod_piece.specs.rule.Piece.{Piece}
use Rattle.pod_piece.specs.state.Status.{AreLastEvents}
use Rattle.totals.specs.declared.totals.Totals.{Totals}
use Rattle.totals.specs.declared.totals.Entry.{Entry}
use Rattle.totals.specs.rule.Totals.{orders, is_order}

-- what a tick of a pod with these events adds to the totals, beside one update
abbrev pub entry_of : List PodEvent → Entry
entry_of events = record { events = length events; orders = length (filter is_order events) }

-- the entry of a piece, by the events of its last tick
abbrev pub IsEntryOf : Piece → Entry → Type 0
IsEntryOf piece entry = (events : List PodEvent) × AreLastEvents piece events × (entry ≡ entry_of events)

-- the entries of these pieces
pub record AreEntriesOf (pieces : List Piece) (entries : List Entry) : Type 0 where
  pub as_many : length entries ≡ length pieces
  pub each : (n : ℕ) (piece : Piece) (entry : Entry) → slice_get pieces n ≡ Some piece
      → slice_get entries n ≡ Some entry → IsEntryOf piece entry

-- what these entries add up to
abbrev pub sums_of : List Entry → Totals
sums_of entries = record {
  updates = length entries;
  events = sum_by (λ (e : Entry). e.events) entries;
  orders = sum_by (λ (e : Entry). e.orders) entries;
}

-- two totals together
abbrev pub plus : Totals → Totals → Totals
plus a b = record { updates = a.updates + b.updates; events = a.events + b.events; orders = a.orders + b.orders }

abbrev pub nothing : Totals
nothing = record { updates = 0; events = 0; orders = 0 }

-- one update with this entry
abbrev pub one_update : Entry → Totals
one_update entry = record { updates = 1; events = entry.events; orders = entry.orders }
