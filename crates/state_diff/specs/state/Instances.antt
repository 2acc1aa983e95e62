-- Which listings may follow on each other (Container Runtime Interface, `ContainerState`).
use Rattle.std.specs.Prelude.{ℕ, ◌-◌, ◌<◌, ◌≤◌, List, length, take, Option, Some}
use Rattle.std.specs.Prelude.{None}
use Rattle.state_diff.specs.declared.seen.CriState.{CriState}
use Rattle.state_diff.specs.declared.seen.Seen.{Seen}
use Rattle.state_diff.specs.rule.States.{rank}
use Rattle.histories.specs.rule.Histories.{recorded}
use Rattle.state_diff.specs.rule.Instances.{Tick, seen_at, Listed, IsEffective}

abbrev pub tick : ℕ → Option Seen → Tick
tick moment seen = recorded moment seen

-- the listing may come after these ticks
pub record MayFollow (h : List Tick) (seen : Seen) : Type 0 where
  -- its attempt isn't below one that was listed before
  pub not_older : (a t : ℕ) → Listed h a t → a ≤ seen.attempt
  -- an attempt that was listed before was listed at the last tick
  pub not_gone : (t : ℕ) → Listed h seen.attempt t → Listed h seen.attempt (length h - 1)
  -- its state isn't below the effective state
  pub not_back : (state : CriState) → IsEffective h seen.attempt state → rank state ≤ rank seen.state

-- what is listed, if anything, may come after these ticks
abbrev pub IsAcceptable : List Tick → Option Seen → Type 0
IsAcceptable h None = Unit {0}
IsAcceptable h (Some seen) = MayFollow h seen

-- each listing may come after those before it
abbrev pub IsAcceptableHistory : List Tick → Type 0
IsAcceptableHistory h = (t : ℕ) → t < length h → IsAcceptable (take t h) (seen_at h t)
