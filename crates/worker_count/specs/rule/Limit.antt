-- How many workers a replay may have.
use Rattle.std.specs.Prelude.{ℕ}

-- this many at most
abbrev pub most_workers : ℕ
most_workers = 64
