-- When a threshold is active, and when it is due. The limit, the reclaim and the values are in
-- thousandths, moments and the grace period in seconds.
use Rattle.std.specs.Prelude.{◌≡◌, ℕ, ◌+◌, ◌-◌, ◌<◌, ◌≤◌, List, length, Option, Some}
use Rattle.histories.specs.rule.Histories.{HoldsAt, IsFirstMoment, moment_at}
use Rattle.signals.specs.declared.threshold.Threshold.{Threshold}
use Rattle.quantity.specs.rule.Limit.{amount_of}
use Rattle.thresholds.specs.rule.Samples.{Sample, IsBelowAt}

-- Active after these samples (Kubernetes, "Node-pressure Eviction", "Eviction thresholds" and
-- "Minimum eviction reclaim"): at some place the value was below the limit, and there and at every
-- place since it was below the limit plus the reclaim.
pub record IsActive (limit reclaim : ℕ) (h : List Sample) : Type 0 where
  pub place : ℕ
  pub below : IsBelowAt h limit place
  pub not_cleared : (t : ℕ) → place ≤ t → t < length h → IsBelowAt h (limit + reclaim) t

-- the threshold was active after each sample from place u to the last
pub record IsActiveFrom (limit reclaim : ℕ) (h : List Sample) (u : ℕ) : Type 0 where
  pub within : u < length h
  pub unbroken : (t : ℕ) → u ≤ t → t < length h → HoldsAt (IsActive limit reclaim) h t

-- since when the threshold has been active without a break, if it is active: the moment of the first sample from which
-- on it was
abbrev pub IsActiveSince : ℕ → ℕ → List Sample → Option ℕ → Type 0
IsActiveSince limit reclaim h since = IsFirstMoment h (IsActiveFrom limit reclaim h) since

-- Due after these samples ("Soft eviction thresholds"; a hard one has no grace period): it is active, and has
-- been without a break, up to the last sample, for at least the grace period.
pub record IsDue (limit reclaim grace : ℕ) (h : List Sample) : Type 0 where
  pub active : IsActive limit reclaim h
  pub since : ℕ
  pub is_since : IsActiveSince limit reclaim h (Some since)
  pub now : ℕ
  pub is_now : moment_at h (length h - 1) ≡ Some now
  pub passed : grace ≤ now - since

-- the threshold, on a signal of this capacity, is active after these samples
abbrev pub IsThresholdActive : Threshold → Option ℕ → List Sample → Type 0
IsThresholdActive threshold capacity h = IsActive (amount_of capacity threshold.limit)
    (amount_of capacity threshold.reclaim) h

-- the threshold, on a signal of this capacity, is due after these samples
abbrev pub IsThresholdDue : Threshold → Option ℕ → List Sample → Type 0
IsThresholdDue threshold capacity h = IsDue (amount_of capacity threshold.limit)
    (amount_of capacity threshold.reclaim) threshold.grace h
