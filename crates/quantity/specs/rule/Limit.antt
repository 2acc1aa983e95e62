-- A limit that is a quantity or a percentage (Kubernetes, "Node-pressure Eviction", "Eviction
-- thresholds": "a literal value" or "a percentage").
use Rattle.std.specs.Prelude.{ℕ, List, length, ◌-◌, slice_index, Option, Some, None, Result, Ok, ◌==◌}
use Rattle.std.specs.Prelude.{if◌then◌else◌}
use Rattle.quantity.specs.rule.Percent.{percent_of, share_of}
use Rattle.quantity.specs.rule.Quantity.{quantity_of}
use Rattle.quantity.specs.rule.Steps.{◌>>=◌}
use Rattle.quantity.specs.declared.limit.Limit.{Limit}
use Rattle.quantity.specs.declared.limit.Limit.TheVariants.{Percent, Quantity}
use Rattle.quantity.specs.declared.fault.QuantityFault.{QuantityFault}

-- a text that ends with `%`, 37, is a percentage, and any other a quantity
unfoldable pub limit_of : List ℕ → Result Limit QuantityFault
limit_of text =
    if slice_index text (length text - 1) == 37
    then (percent_of text >>= λ percent. Ok (Percent percent))
    else (quantity_of text >>= λ quantity. Ok (Quantity quantity))

-- What it amounts to, in thousandths: a quantity itself; of a percentage, that share of the signal's
-- capacity, rounded down.
abbrev pub amount_of : Option ℕ → Limit → ℕ
amount_of capacity (Quantity thousandths) = thousandths
amount_of (Some capacity) (Percent hundredths) = share_of hundredths capacity
amount_of None (Percent hundredths) = 0
