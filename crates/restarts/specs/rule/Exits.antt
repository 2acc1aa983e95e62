-- The exits of one container, oldest first.
use Rattle.std.specs.Prelude.{◌≡◌, ◌⊎◌, ℕ, ◌+◌, ◌≤◌, List, length, IsSomeAnd}
use Rattle.histories.specs.rule.Histories.{Recorded, entry_at, IsLast}

-- one exit: its moment, and as its entry for how many seconds the container had run
abbrev pub Exit : Type 0
Exit = Recorded ℕ

-- a run of this many seconds or more resets the count
abbrev pub long_run : ℕ
long_run = 600

-- the run before the exit at a place was long
abbrev pub IsLong : List Exit → ℕ → Type 0
IsLong exits t = IsSomeAnd (entry_at exits t) (λ run. long_run ≤ run)

-- the place from which exits are counted: that of the last exit after a long run, or the first place if
-- there is none
abbrev pub IsBeginning : List Exit → ℕ → Type 0
IsBeginning exits start = IsLast (IsLong exits) start ⊎ ((start ≡ 0) × ((t : ℕ) → IsLong exits t → ⊥))

-- the number of the last exit: how many exits there are, from the place on from which they are counted
pub record IsNumber (exits : List Exit) (number : ℕ) : Type 0 where
  pub start : ℕ
  pub beginning : IsBeginning exits start
  pub counted : start + number ≡ length exits
