-- The exits of a tick, and what is kept of all of them.
use Rattle.std.specs.Prelude.{ℕ, ℤ, ◌-◌, List, [], ◌∷◌, Option, Some, None, unwrap_or}
use Rattle.histories.specs.rule.Histories.{recorded}
use Rattle.state_diff.specs.declared.seen.Seen.{Seen}
use Rattle.restarts.specs.rule.Exits.{Exit}
use Rattle.restart_causes.specs.declared.exit_count.ExitCount.{ExitCount}
use Rattle.restart_causes.specs.state.Counted.{IsCountOf}
use Rattle.containers.specs.rule.Ticks.{ContainerTick, listings}
use Rattle.containers.specs.rule.Exits.{AreExits}
use Rattle.container_causes.specs.declared.exits.Leaving.{Leaving}
use Rattle.container_causes.specs.declared.exits.LastExit.{LastExit}

-- an instance that is no longer listed has run from its start on, if it had one
abbrev pub left : Option (ℕ × ℤ) → Option ℕ → ℕ → Option Leaving
left None start at = None
left (Some death) start at = Some (record { attempt = death.0; run = at - unwrap_or start at })

-- a listed instance that died has this run
abbrev pub exited : Option (ℕ × ℤ) → Option ℕ → Option Leaving
exited None run = None
exited (Some death) None = None
exited (Some death) (Some run) = Some (record { attempt = death.0; run = run })

abbrev pub attempts_of : Option Leaving → List ℕ
attempts_of None = []
attempts_of (Some l) = l.attempt ∷ []

abbrev pub exits_of : ℕ → Option Leaving → List Exit
exits_of at None = []
exits_of at (Some l) = recorded at l.run ∷ []

abbrev pub last_exit_at : ℕ → Option ℤ → Option ℕ → Option LastExit
last_exit_at attempt None at = None
last_exit_at attempt (Some code) None = None
last_exit_at attempt (Some code) (Some at) = Some (record { attempt = attempt; at = at; code = code })

abbrev pub last_exit_of : Option Seen → Option ℕ → Option LastExit
last_exit_of None at = None
last_exit_of (Some seen) at = last_exit_at seen.attempt seen.code at

-- the count of all exits is kept, if there are any
abbrev pub IsCountKept : List ContainerTick → Option ExitCount → Type 0
IsCountKept h count = (exits : List Exit) × (are : AreExits (listings h) exits) × IsCountOf are.attempts exits count
