-- A limit whose percentage is of a capacity that is known.
use Rattle.std.specs.Prelude.{ℕ, Option, IsSome}
use Rattle.quantity.specs.declared.limit.Limit.{Limit}
use Rattle.quantity.specs.declared.limit.Limit.TheVariants.{Percent, Quantity}

-- a percentage has a capacity of which it is
abbrev pub HasItsCapacity : Option ℕ → Limit → Type 0
HasItsCapacity capacity (Quantity thousandths) = Unit {0}
HasItsCapacity capacity (Percent hundredths) = IsSome capacity
