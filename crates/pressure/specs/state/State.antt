-- The state of a pressure after a list of observations.
use Rattle.std.specs.Prelude.{◌≡◌, ◌↔◌, ℕ, ◌≤◌, List, Option, Some, None, IsTrue, max}
use Rattle.histories.specs.rule.Histories.{moment_at, HoldsAt, IsTransition}
use Rattle.pressure.specs.declared.pressure.Pressure.{Pressure}
use Rattle.pressure.specs.rule.Pressures.{Observation, IsMetAt, IsUnderPressure}

-- a moment at which the condition was met, and it was met at no later one
pub record IsLatest (h : List Observation) (latest : ℕ) : Type 0 where
  pub place : ℕ
  pub met : IsMetAt h place
  pub moment : moment_at h place ≡ Some latest
  pub none_later : (t m : ℕ) → IsMetAt h t → moment_at h t ≡ Some m → m ≤ latest

-- the latest moment at which the condition was met, if there is one
abbrev pub IsLatestMet : List Observation → Option ℕ → Type 0
IsLatestMet h None = (t : ℕ) → IsMetAt h t → ⊥
IsLatestMet h (Some latest) = IsLatest h latest

-- the later of two moments, the first of which may be missing
abbrev pub later_of : Option ℕ → ℕ → ℕ
later_of None at = at
later_of (Some latest) at = max at latest

-- the pressure's state after these observations
pub record IsStateOf (period : ℕ) (h : List Observation) (pressure : Pressure) : Type 0 where
  pub same_period : pressure.period ≡ period
  pub latest_met : IsLatestMet h pressure.latest_met
  pub is_true : IsTrue pressure.is_true ↔ IsUnderPressure period h
  pub since : IsTransition h (HoldsAt (IsUnderPressure period) h) pressure.since
