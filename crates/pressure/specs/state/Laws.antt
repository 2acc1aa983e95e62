-- The statements of the laws.
use Rattle.std.specs.Prelude.{◌≡◌, ◌↔◌, ℕ, ◌+◌, ◌-◌, ◌<◌, List, length, Some}
use Rattle.histories.specs.rule.Histories.{moment_at, IsLast}
use Rattle.histories.specs.state.Histories.{IsRising}
use Rattle.pressure.specs.rule.Pressures.{Observation, IsMetAt, IsUnderPressure, IsSince}

-- with a period of 0 a condition is true exactly while it is met
abbrev pub NoPeriodIsMetNow : Type 0
NoPeriodIsMetNow = (h : List Observation) → (IsUnderPressure 0 h ↔ IsMetAt h (length h - 1))

-- the condition was last met at this place, which is before the last one
pub record WasLastMet (h : List Observation) (place : ℕ) : Type 0 where
  pub last : IsLast (IsMetAt h) place
  pub earlier : place < length h - 1

-- where moments rise: a condition that is no longer met is true while less than the period has passed
-- since it was last met, and false from then on
abbrev pub TrueForThePeriod : Type 0
TrueForThePeriod =
    (period place moment now : ℕ) (h : List Observation) → IsRising h → WasLastMet h place
    → moment_at h place ≡ Some moment → moment_at h (length h - 1) ≡ Some now
    → (IsUnderPressure period h ↔ (now < moment + period))

-- there is exactly one moment since which a condition has been true, or has not been
pub record OneSince : Type 0 where
  pub exists : (period : ℕ) (h : List Observation) → (since : ℕ) × IsSince period h since
  pub unique : (period : ℕ) (h : List Observation) (one other : ℕ) → IsSince period h one → IsSince period h other
      → one ≡ other
