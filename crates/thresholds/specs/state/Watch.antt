-- The state of a watch after a list of samples.
use Rattle.std.specs.Prelude.{◌≡◌, ◌⊎◌, ◌↔◌, ℕ, ◌+◌, List, Option, IsTrue, IsSome}
use Rattle.signals.specs.declared.threshold.Threshold.{Threshold}
use Rattle.thresholds.specs.declared.watch.Watch.{Watch}
use Rattle.quantity.specs.rule.Limit.{amount_of}
use Rattle.thresholds.specs.rule.Samples.{Sample, IsBelow}
use Rattle.thresholds.specs.rule.Thresholds.{IsActiveSince, IsThresholdDue}

-- the threshold is active once this value has come
abbrev pub IsActiveAfter : Watch → Option ℕ → Type 0
IsActiveAfter watch value = IsBelow watch.limit value ⊎ (IsSome watch.active_since × IsBelow watch.clears_from value)

-- the watch's state after these samples
pub record IsStateOf (threshold : Threshold) (capacity : Option ℕ) (h : List Sample) (watch : Watch) : Type 0 where
  pub limit : watch.limit ≡ amount_of capacity threshold.limit
  pub clears_from : watch.clears_from ≡ amount_of capacity threshold.limit + amount_of capacity threshold.reclaim
  pub grace : watch.grace ≡ threshold.grace
  pub active_since : IsActiveSince (amount_of capacity threshold.limit) (amount_of capacity threshold.reclaim) h
      watch.active_since
  pub due : IsTrue watch.due ↔ IsThresholdDue threshold capacity h
