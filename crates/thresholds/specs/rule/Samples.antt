-- The samples of one signal, oldest first (Kubernetes, "Node-pressure Eviction", "Eviction
-- signals").
use Rattle.std.specs.Prelude.{ℕ, ◌<◌, List, Option, IsSomeAnd}
use Rattle.histories.specs.rule.Histories.{Recorded, recorded, entry_at}

-- one sample: its moment in seconds, and the signal's value in thousandths, if it has one
abbrev pub Sample : Type 0
Sample = Recorded (Option ℕ)

-- the sample of a moment and a value
abbrev pub sample : ℕ → Option ℕ → Sample
sample at value = recorded at value

-- a value is below a limit; an absent value is below nothing
abbrev pub IsBelow : ℕ → Option ℕ → Type 0
IsBelow limit value = IsSomeAnd value (λ v. v < limit)

-- the value at place t is below the limit
abbrev pub IsBelowAt : List Sample → ℕ → ℕ → Type 0
IsBelowAt h limit t = IsSomeAnd (entry_at h t) (IsBelow limit)
