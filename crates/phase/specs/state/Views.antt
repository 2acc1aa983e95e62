-- What a view shows of a container (Kubernetes, "Pod Lifecycle", "Container states"; restarts by
-- the greatest attempt are this profile's rule).
use Rattle.std.specs.Prelude.{ℕ, Option, Some, None}
use Rattle.state_diff.specs.declared.seen.Seen.{Seen}
use Rattle.state_diff.specs.declared.seen.CriState.{CriState}
use Rattle.state_diff.specs.declared.seen.CriState.TheVariants.{Created, Running as IsRunning, Exited, Unknown}
use Rattle.phase.specs.declared.container.ContainerState.{ContainerState}
use Rattle.phase.specs.declared.container.ContainerState.TheVariants.{Waiting, Running, Terminated}

-- how the state of an instance is shown; no view has one that is unknown
abbrev pub shown_as : CriState → ContainerState
shown_as Created = Waiting
shown_as IsRunning = Running
shown_as Exited = Terminated
shown_as Unknown = Waiting

-- the state of a container: that of its newest instance, and waiting before any is listed
abbrev pub state_shown : Option Seen → ContainerState
state_shown None = Waiting
state_shown (Some seen) = shown_as seen.state

-- the attempt of the newest instance, and 0 before any is listed
abbrev pub restarts_of : Option Seen → ℕ
restarts_of None = 0
restarts_of (Some seen) = seen.attempt
