-- How long a restart is backed off, on a node with a maximum delay (Kubernetes, "Pod Lifecycle",
-- "Container restart policy"; that the first exit has no delay and that a run of 600 s resets the
-- count is this profile's reading).
use Rattle.std.specs.Prelude.{◌≡◌, ℕ, zero, suc, ◌+◌, ◌*◌, ◌^◌, List, [], Option, Some, None, min}
use Rattle.histories.specs.rule.Histories.{last_moment}
use Rattle.restarts.specs.rule.Exits.{Exit, IsNumber}

-- the delay in seconds of the exit with this number: none for the first, then 10, 20, 40 and so on,
-- up to the maximum
abbrev pub delay_of : ℕ → ℕ → ℕ
delay_of max_restart_delay zero = 0
delay_of max_restart_delay (suc zero) = 0
delay_of max_restart_delay (suc (suc doublings)) = min max_restart_delay (10 * 2 ^ doublings)

-- the delay of the last exit
abbrev pub IsDelay : ℕ → List Exit → ℕ → Type 0
IsDelay max_restart_delay exits delay = (number : ℕ) × IsNumber exits number
    × (delay ≡ delay_of max_restart_delay number)

-- the moment from which on the restart after the last exit is due: that of the exit plus its delay
abbrev pub IsRestartDue : ℕ → List Exit → Option ℕ → Type 0
IsRestartDue max_restart_delay exits None = exits ≡ []
IsRestartDue max_restart_delay exits (Some due) =
    (last : ℕ) × (delay : ℕ) × (last_moment exits ≡ Some last) × IsDelay max_restart_delay exits delay
    × (due ≡ last + delay)
