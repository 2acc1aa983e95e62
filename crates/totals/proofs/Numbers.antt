-- Totals by their fields.
use Rattle.std.proofs.Common.{◌≡◌}
use Rattle.totals.specs.declared.totals.Totals.{Totals}

pub totals_same : (a b : Totals) → a.updates ≡ b.updates → a.events ≡ b.events → a.orders ≡ b.orders → a ≡ b
totals_same a b updates events orders =
    λ k. (let t : Totals = record { updates = updates k; events = events k; orders = orders k } in t)
