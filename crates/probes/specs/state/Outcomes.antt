-- How long a run of results is, counted up to a limit.
use Rattle.std.specs.Prelude.{◌↔◌, ℕ, ◌≤◌, List, length}
use Rattle.manifest.specs.declared.outcome.Outcome.{Outcome}
use Rattle.probes.specs.rule.Outcomes.{EndsRun}

-- the number of results at the end that are the outcome, counted up to a limit
pub record IsRunLength (outcome : Outcome) (limit : ℕ) (results : List Outcome) (n : ℕ) : Type 0 where
  pub within : n ≤ limit
  pub run : (m : ℕ) → m ≤ limit → ((m ≤ n) ↔ EndsRun outcome m results (length results))
