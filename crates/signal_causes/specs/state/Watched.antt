-- What is kept of a signal's past for the causes of its events.
use Rattle.std.specs.Prelude.{ℕ, List, Option}
use Rattle.signals.specs.declared.threshold.Threshold.{Threshold}
use Rattle.quantity.specs.rule.Limit.{amount_of}
use Rattle.thresholds.specs.rule.Samples.{Sample}
use Rattle.thresholds.specs.rule.Thresholds.{IsActiveSince}
use Rattle.thresholds.specs.state.Watch.{IsStateOf}
use Rattle.signal_causes.specs.rule.Stretches.{IsDueSince}
use Rattle.signal_causes.specs.declared.watched_threshold.WatchedThreshold.{WatchedThreshold}

-- since when the threshold, on a signal of this capacity, has been active
abbrev pub IsThresholdActiveSince : Threshold → Option ℕ → List Sample → Option ℕ → Type 0
IsThresholdActiveSince threshold capacity h since =
    IsActiveSince (amount_of capacity threshold.limit) (amount_of capacity threshold.reclaim) h since

-- what is kept after these samples
pub record IsWatchedOf (threshold : Threshold) (capacity : Option ℕ) (h : List Sample) (watched : WatchedThreshold)
    : Type 0 where
  pub watch : IsStateOf threshold capacity h watched.watch
  pub active : IsThresholdActiveSince threshold capacity h watched.active_since
  pub due : IsDueSince threshold capacity h watched.due_since
