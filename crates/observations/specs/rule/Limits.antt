-- How much a recorder may have seen.
use Rattle.std.specs.Prelude.{ℕ}

-- ticks of a node
abbrev pub most_ticks : ℕ
most_ticks = 20000

-- pods on a node
abbrev pub most_pods : ℕ
most_pods = 256
