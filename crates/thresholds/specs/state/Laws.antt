-- The statements of the laws.
use Rattle.std.specs.Prelude.{◌≡◌, ◌⊎◌, ◌↔◌, ℕ, ◌+◌, ◌-◌, List, [], ◌∷◌, ◌++◌, length, Option, IsSome}
use Rattle.thresholds.specs.rule.Samples.{Sample, sample, IsBelow, IsBelowAt}
use Rattle.thresholds.specs.rule.Thresholds.{IsActive, IsActiveSince, IsDue}

-- a threshold that is due is active
abbrev pub DueIsActive : Type 0
DueIsActive = (limit reclaim grace : ℕ) (h : List Sample) → IsDue limit reclaim grace h → IsActive limit reclaim h

-- a hard threshold, whose grace period is 0, is due exactly when it is active
abbrev pub HardIsDueWhenActive : Type 0
HardIsDueWhenActive = (limit reclaim : ℕ) (h : List Sample) → (IsDue limit reclaim 0 h ↔ IsActive limit reclaim h)

-- without a reclaim a threshold is active exactly when the last value is below its limit
abbrev pub NoReclaimIsBelowNow : Type 0
NoReclaimIsBelowNow = (limit : ℕ) (h : List Sample) → (IsActive limit 0 h ↔ IsBelowAt h limit (length h - 1))

-- after one more sample a threshold is active exactly when the new value is below the limit, or it was active and the
-- new value is below the limit plus the reclaim
abbrev pub ActiveGoesOn : Type 0
ActiveGoesOn =
    (limit reclaim at : ℕ) (value : Option ℕ) (h : List Sample) →
    (IsActive limit reclaim (h ++ sample at value ∷ [])
    ↔ (IsBelow limit value ⊎ (IsActive limit reclaim h × IsBelow (limit + reclaim) value)))

-- there is exactly one answer to since when a threshold is active, and it is a moment exactly where the
-- threshold is active
pub record OneActiveSince : Type 0 where
  pub exists : (limit reclaim : ℕ) (h : List Sample) → (since : Option ℕ) × IsActiveSince limit reclaim h since
  pub unique : (limit reclaim : ℕ) (h : List Sample) (one other : Option ℕ) → IsActiveSince limit reclaim h one
      → IsActiveSince limit reclaim h other → one ≡ other
  pub some : (limit reclaim : ℕ) (h : List Sample) (since : Option ℕ) → IsActiveSince limit reclaim h since
      → (IsSome since ↔ IsActive limit reclaim h)
