-- The number of the last exit, as far as the delay depends on it.
use Rattle.std.specs.Prelude.{◌≡◌, ℕ, List, min}
use Rattle.restarts.specs.rule.Exits.{Exit, IsNumber}

-- from this number on each delay is the maximum, whatever that is
abbrev pub last_count : ℕ
last_count = 7

-- what a back-off keeps of these exits: the number of the last one, counted up to `last_count`
abbrev pub IsCountOf : List Exit → ℕ → Type 0
IsCountOf exits count = (number : ℕ) × IsNumber exits number × (count ≡ min number last_count)
