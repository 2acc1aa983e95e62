-- Which exits count towards the delay of the restart after the last one, and what the delay is made of. (Kubernetes,
-- "Pod Lifecycle", "Container restart policy"; that every exit counts and a run of 600 s begins the count anew are this
-- profile's rules.)
use Rattle.std.specs.Prelude.{◌≡◌, ◌↔◌, ℕ, zero, suc, ◌+◌, ◌*◌, ◌^◌, List, length, slice_get, Option, Some, None}
use Rattle.std.specs.Prelude.{IsTrue}
use Rattle.std.specs.Prelude.{if◌then◌else◌, nat_lt, unwrap_or}
use Rattle.histories.specs.rule.Histories.{moment_at}
use Rattle.restarts.specs.rule.Exits.{Exit, IsBeginning}
use Rattle.restart_causes.specs.declared.exit_count.ExitCount.{ExitCount}

-- of these exits, each of the attempt at its place: the exit with which the count begins, and the number of the last
pub record IsExitCount (attempts : List ℕ) (exits : List Exit) (count : ExitCount) : Type 0 where
  pub start : ℕ
  pub beginning : IsBeginning exits start
  pub counted : start + count.number ≡ length exits
  pub first : slice_get attempts start ≡ Some count.first
  pub since : moment_at exits start ≡ Some count.since
  pub of_all : IsTrue count.is_first_of_all ↔ (start ≡ 0)

-- how often 10 s are doubled for the exit with this number; the first one has no delay
abbrev pub doublings_of : ℕ → Option ℕ
doublings_of zero = None
doublings_of (suc zero) = None
doublings_of (suc (suc doublings)) = Some doublings

-- the maximum delay, where 10 s so often doubled are more
abbrev pub cap_of : ℕ → ℕ → Option ℕ
cap_of max_restart_delay doublings =
    if nat_lt max_restart_delay (10 * 2 ^ doublings) then Some max_restart_delay else None

-- the delay in these terms
abbrev pub delay_by : ℕ → Option ℕ → ℕ
delay_by max_restart_delay None = 0
delay_by max_restart_delay (Some doublings) = unwrap_or (cap_of max_restart_delay doublings) (10 * 2 ^ doublings)
