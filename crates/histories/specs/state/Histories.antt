-- What a value that is carried from record to record rests on: the order of the moments, and what stays so.
use Rattle.std.specs.Prelude.{◌≡◌, ℕ, ◌<◌, List, [], ◌++◌, Some}
use Rattle.std.specs.Prelude.{IfSome}
use Rattle.histories.specs.rule.Histories.{Recorded, moment_at, last_moment}

-- each moment is later than those before it
abbrev pub IsRising : {A : Type 0} → List (Recorded A) → Type 0
IsRising h = (t u m n : ℕ) → t < u → moment_at h t ≡ Some m → moment_at h u ≡ Some n → m < n

-- the last record, if there is one, is before the moment
abbrev pub EndsBefore : {A : Type 0} → List (Recorded A) → ℕ → Type 0
EndsBefore h moment = IfSome (last_moment h) (λ last. last < moment)

-- once P holds of a history it goes on to hold, whatever is recorded later; of the empty one it does
-- not hold
pub record Lasts {A : Type 0} (P : List (Recorded A) → Type 0) : Type 0 where
  pub none : P [] → ⊥
  pub more : (h later : List (Recorded A)) → P h → P (h ++ later)
