-- What is sought of a container.
use Rattle.phase.specs.declared.restart_view.RestartView.{RestartView}
use Rattle.phase.specs.rule.RawPhase.{IsAwaited}
use Rattle.phase.specs.rule.ByContainer.{HasFailedForGood}
use Rattle.phase.specs.state.Restarts.{of_restart_view, Wants}
use Rattle.phase_causes.specs.declared.sought.Sought.{Sought}
use Rattle.phase_causes.specs.declared.sought.Sought.TheVariants.{FailedForGood, Awaited, NotStopped}
use Rattle.phase_causes.specs.rule.Cases.{IsNotStopped}

abbrev pub IsSought : Sought → RestartView → Type 0
IsSought FailedForGood container = HasFailedForGood of_restart_view Wants container
IsSought Awaited container = IsAwaited of_restart_view container
IsSought NotStopped container = IsNotStopped of_restart_view Wants container
