-- The state of a back-off after a list of exits.
use Rattle.std.specs.Prelude.{◌≡◌, ℕ, List}
use Rattle.restarts.specs.declared.backoff.Backoff.{Backoff}
use Rattle.restarts.specs.rule.Exits.{Exit}
use Rattle.restarts.specs.rule.Delays.{IsRestartDue}
use Rattle.restarts.specs.state.Counts.{IsCountOf}

-- the back-off's state after these exits, on a node with this maximum delay
pub record IsStateOf (max_restart_delay : ℕ) (exits : List Exit) (backoff : Backoff) : Type 0 where
  pub kept : backoff.max_restart_delay ≡ max_restart_delay
  pub count : IsCountOf exits backoff.count
  pub due : IsRestartDue max_restart_delay exits backoff.due
