-- How many workers update the pods of a round.
use Rattle.std.specs.Prelude.{ℕ, ◌/◌, Bool, min, max, if◌then◌else◌}

-- a worker is worth the start of its thread if it has this many updates
abbrev pub updates_a_worker : ℕ
updates_a_worker = 1024

-- of these workers this many are worth their start
abbrev pub worth_their_start : ℕ → ℕ → ℕ
worth_their_start workers updates = max 1 (min (updates / updates_a_worker) workers)

-- of these workers this many run: those that are worth their start, or all where an update may wait for others, but no
-- more than there are pods
abbrev pub running : Bool → ℕ → ℕ → ℕ → ℕ
running may_wait workers pods updates =
    let busy = min workers (max pods 1) in if may_wait then busy else worth_their_start busy updates
