-- When a node condition is true, and since when (Kubernetes, "Node-pressure Eviction", "Node
-- conditions" and "Node condition oscillation"). Moments and the period are in seconds.
use Rattle.std.specs.Prelude.{◌≡◌, ◌⊎◌, ℕ, ◌-◌, ◌<◌, List, [], length, Bool, Some, IsTrue, IsSomeAnd}
use Rattle.histories.specs.rule.Histories.{Recorded, entry_at, moment_at, HoldsAt, IsTransition}

-- one observation: its moment, and whether the condition is met, which it is while one of its
-- thresholds is active
abbrev pub Observation : Type 0
Observation = Recorded Bool

-- the condition was met at place t
abbrev pub IsMetAt : List Observation → ℕ → Type 0
IsMetAt h t = IsSomeAnd (entry_at h t) IsTrue

-- the condition was met at a place before the last one, less than the period before the last observation
pub record WasMetLately (period : ℕ) (h : List Observation) : Type 0 where
  pub place : ℕ
  pub earlier : place < length h - 1
  pub met : IsMetAt h place
  pub moment : ℕ
  pub is_moment : moment_at h place ≡ Some moment
  pub now : ℕ
  pub is_now : moment_at h (length h - 1) ≡ Some now
  pub lately : now - moment < period

-- the condition is true after these observations: it is met at the last one, or was met lately
abbrev pub IsUnderPressure : ℕ → List Observation → Type 0
IsUnderPressure period h = IsMetAt h (length h - 1) ⊎ WasMetLately period h

-- the moment since which the condition has been true, or has not been: that of the first observation
-- from which on it was the same; 0 without any observation
abbrev pub IsSince : ℕ → List Observation → ℕ → Type 0
IsSince period h since = ((h ≡ []) × (since ≡ 0)) ⊎ IsTransition h (HoldsAt (IsUnderPressure period) h) (Some since)
