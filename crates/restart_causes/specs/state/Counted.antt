-- The count that is kept, if there are exits.
use Rattle.std.specs.Prelude.{◌≡◌, ℕ, List, [], Option, Some, None}
use Rattle.restarts.specs.rule.Exits.{Exit}
use Rattle.restart_causes.specs.declared.exit_count.ExitCount.{ExitCount}
use Rattle.restart_causes.specs.rule.ExitCounts.{IsExitCount}

abbrev pub IsCountOf : List ℕ → List Exit → Option ExitCount → Type 0
IsCountOf attempts exits None = exits ≡ []
IsCountOf attempts exits (Some count) = IsExitCount attempts exits count
