-- Limits and reclaims in the maps (Kubernetes, "Node-pressure Eviction", "Eviction thresholds" and
-- "Minimum eviction reclaim").
use Rattle.std.specs.Prelude.{ℕ, ◌*◌, ◌^◌, ◌==◌, ◌||◌, Bool, true, false, Option, Some, None, is_some}
use Rattle.std.specs.Prelude.{if◌then◌else◌, Result, Ok, Err}
use Rattle.serde_json.specs.Data.{Data}
use Rattle.json_fields.specs.rule.Reading.{◌>>=◌}
use Rattle.quantity.specs.declared.limit.Limit.{Limit}
use Rattle.quantity.specs.declared.limit.Limit.TheVariants.{Percent, Quantity}
use Rattle.json_fields.specs.rule.Quantities.{limit_in}
use Rattle.signals.specs.declared.by_signal.BySignal.{BySignal}
use Rattle.signals.specs.declared.signal.Signal.{Signal}
use Rattle.signals.specs.rule.BySignal.{of, for_each}
use Rattle.signals.specs.declared.signal.Signal.TheVariants.{MemoryAvailable, NodefsAvailable, ImagefsAvailable}
use Rattle.signals.specs.declared.signal.Signal.TheVariants.{NodefsInodesFree, ImagefsInodesFree, PidAvailable}
use Rattle.node_lines.specs.declared.fault.NodeFault.{NodeFault}
use Rattle.node_lines.specs.declared.fault.NodeFault.TheVariants.{Config}
use Rattle.node_lines.specs.rule.Maps.{or_config, map_of}

-- a percentage needs the capacity of its signal
abbrev pub has_capacity : Option ℕ → Limit → Bool
has_capacity capacity (Quantity thousandths) = true
has_capacity capacity (Percent hundredths) = is_some capacity

-- the percentages 0 and 100 switch a threshold off
abbrev pub is_off : Limit → Bool
is_off (Quantity thousandths) = false
is_off (Percent hundredths) = hundredths == 0 || hundredths == 10000

abbrev pub with_capacity : Option ℕ → Limit → Result Limit NodeFault
with_capacity capacity limit = if has_capacity capacity limit then Ok limit else Err Config

-- the limit of a threshold, which may be left out or switched off
abbrev pub limit_at : Option ℕ → Option Data → Result (Option Limit) NodeFault
limit_at capacity None = Ok None
limit_at capacity (Some d) = or_config (limit_in d) >>= λ limit.
    if is_off limit then Ok None else (with_capacity capacity limit >>= λ limit. Ok (Some limit))

-- a reclaim: 0 where none is written
abbrev pub reclaim_at : Option ℕ → Option Data → Result Limit NodeFault
reclaim_at capacity None = Ok (Quantity 0)
reclaim_at capacity (Some d) = or_config (limit_in d) >>= λ limit. with_capacity capacity limit

-- the limits of a map, each read on its signal's capacity
abbrev pub limits_in : BySignal (Option ℕ) → Option Data → Result (BySignal (Option Limit)) NodeFault
limits_in capacity found = map_of (λ signal. limit_at (of capacity signal)) found

-- the reclaims of a map, each read on its signal's capacity
abbrev pub reclaims_in : BySignal (Option ℕ) → Option Data → Result (BySignal Limit) NodeFault
reclaims_in capacity found = map_of (λ signal. reclaim_at (of capacity signal)) found

-- the limits of a node that sets none (Kubernetes, "Hard eviction thresholds"; this profile's)
abbrev pub default_limit : Signal → Option Limit
default_limit MemoryAvailable = Some (Quantity (1000 * (100 * 2 ^ 20)))
default_limit NodefsAvailable = Some (Percent 1000)
default_limit ImagefsAvailable = Some (Percent 1500)
default_limit NodefsInodesFree = Some (Percent 500)
default_limit ImagefsInodesFree = Some (Percent 500)
default_limit PidAvailable = None

-- one that needs a capacity and has none is left out
abbrev pub where_possible : Option ℕ → Option Limit → Option Limit
where_possible capacity None = None
where_possible capacity (Some limit) = if has_capacity capacity limit then Some limit else None

abbrev pub default_limits : BySignal (Option ℕ) → BySignal (Option Limit)
default_limits capacity = for_each (λ signal. where_possible (of capacity signal) (default_limit signal))

-- the limits of the hard thresholds: the written ones alone, or the defaults where none is written
abbrev pub hard_limits : BySignal (Option ℕ) → Option Data → Result (BySignal (Option Limit)) NodeFault
hard_limits capacity None = Ok (default_limits capacity)
hard_limits capacity (Some d) = limits_in capacity (Some d)
