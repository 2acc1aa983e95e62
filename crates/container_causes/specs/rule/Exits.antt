-- What led to the back-off and to the restart of a container: its newest instance's exit, and the exits that count
-- towards the delay. (Kubernetes, "Pod Lifecycle", "Container restart policy".)
use Rattle.std.specs.Prelude.{List, Some}
use Rattle.histories.specs.rule.Histories.{IsFirstMoment}
use Rattle.state_diff.specs.rule.Instances.{Ends, IsNewest, IsExitCode}
use Rattle.restarts.specs.rule.Exits.{Exit}
use Rattle.restart_causes.specs.declared.exit_count.ExitCount.{ExitCount}
use Rattle.restart_causes.specs.rule.ExitCounts.{IsExitCount}
use Rattle.containers.specs.rule.Ticks.{ContainerTick, listings}
use Rattle.containers.specs.rule.Exits.{AreExits}
use Rattle.container_causes.specs.declared.exits.LastExit.{LastExit}

-- the newest instance has exited: its code, and the moment
pub record IsLastExit (h : List ContainerTick) (cause : LastExit) : Type 0 where
  pub newest : IsNewest (listings h) cause.attempt
  pub code : IsExitCode (listings h) cause.attempt cause.code
  pub moment : IsFirstMoment (listings h) (Ends (listings h) cause.attempt) (Some cause.at)

-- the count of all exits of the container
pub record IsCounted (h : List ContainerTick) (count : ExitCount) : Type 0 where
  pub exits : List Exit
  pub are_exits : AreExits (listings h) exits
  pub counted : IsExitCount are_exits.attempts exits count
