-- Since when a threshold has been due, and when a node condition was last met. (Kubernetes, "Node-pressure Eviction",
-- "Soft eviction thresholds" and "Node condition oscillation".)
use Rattle.std.specs.Prelude.{◌≡◌, ℕ, ◌<◌, ◌≤◌, List, length, Option, Some, None}
use Rattle.histories.specs.rule.Histories.{Recorded, HoldsAt, IsFirstMoment, IsLast, moment_at}
use Rattle.signals.specs.declared.threshold.Threshold.{Threshold}
use Rattle.thresholds.specs.rule.Samples.{Sample}
use Rattle.thresholds.specs.rule.Thresholds.{IsThresholdDue}
use Rattle.pressure.specs.rule.Pressures.{Observation, IsMetAt}

-- P holds of the history up to each place from place u to the last
pub record HoldsFrom {A : Type 0} (P : List (Recorded A) → Type 0) (h : List (Recorded A)) (u : ℕ) : Type 0 where
  pub within : u < length h
  pub unbroken : (t : ℕ) → u ≤ t → t < length h → HoldsAt P h t

-- since when P has held without a break, if it holds: the moment of the first place from which on it did
abbrev pub HasHeldSince : {A : Type 0} → (List (Recorded A) → Type 0) → List (Recorded A) → Option ℕ → Type 0
HasHeldSince P h since = IsFirstMoment h (HoldsFrom P h) since

-- since when the threshold, on a signal of this capacity, has been due without a break, if it is due
abbrev pub IsDueSince : Threshold → Option ℕ → List Sample → Option ℕ → Type 0
IsDueSince threshold capacity h since = HasHeldSince (IsThresholdDue threshold capacity) h since

-- the moment at which the condition was last met, if it ever was
abbrev pub WasLastMet : List Observation → Option ℕ → Type 0
WasLastMet h None = (t : ℕ) → IsMetAt h t → ⊥
WasLastMet h (Some moment) = (t : ℕ) × IsLast (IsMetAt h) t × (moment_at h t ≡ Some moment)
