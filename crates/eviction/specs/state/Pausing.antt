-- The one eviction by which others may pause: a node keeps it, and no earlier one.
use Rattle.std.specs.Prelude.{◌≡◌, ℕ, ◌≤◌, ◌&&◌, List, ◌++◌, Option, Some, None, IfSome, if◌then◌else◌}
use Rattle.node_config.specs.declared.node.NodeConfig.{NodeConfig}
use Rattle.observations.specs.declared.tick.TickObs.{TickObs}
use Rattle.eviction.specs.declared.eviction.Eviction.{Eviction}
use Rattle.eviction.specs.rule.Replay.{is_over_in, is_paused, pauses}

-- the evictions of a node's ticks, and the one by which others may pause
pub record Kept : Type 0 where
  pub each : List (Option Eviction)
  pub pausing : Option Eviction

abbrev pub kept : List (Option Eviction) → Option Eviction → Kept
kept each pausing = record { each = each; pausing = pausing }

-- whichever ticks come after these, none of them before the last: evictions pause if they do by this one
pub record IsPausing (config : NodeConfig) (ticks : List TickObs) (evictions : List (Option Eviction))
    (last : Option ℕ) (pausing : Option Eviction) : Type 0 where
  pub decides : (at : ℕ) (later : List TickObs) → IfSome last (λ moment. moment ≤ at)
      → is_paused config at (ticks ++ later) evictions ≡ pauses config at pausing later

-- what is left of it in the tick that comes next
abbrev pub still : NodeConfig → TickObs → Option Eviction → Option Eviction
still config tick None = None
still config tick (Some eviction) =
    if config.pauses_until_gone && is_over_in eviction.pod tick then None else Some eviction
