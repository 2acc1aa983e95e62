-- Laws of the cases, over the definitions alone.
use Rattle.std.specs.Prelude.{◌≡◌, List}
use Rattle.phase.specs.declared.restart_view.RestartView.{RestartView}
use Rattle.phase.specs.rule.ByContainer.{IsRawPhaseBy}
use Rattle.phase.specs.state.Restarts.{of_restart_view, Wants}
use Rattle.phase_causes.specs.declared.cases.PhaseCase.{PhaseCase}
use Rattle.phase_causes.specs.rule.Cases.{IsPhaseCase, phase_of}

-- there is one case at most
abbrev pub OnePhaseCase : Type 0
OnePhaseCase = (containers : List RestartView) (one other : PhaseCase)
    → IsPhaseCase of_restart_view Wants containers one → IsPhaseCase of_restart_view Wants containers other
    → one ≡ other

-- its phase is the one of the rules
abbrev pub PhaseFollows : Type 0
PhaseFollows = (containers : List RestartView) (one : PhaseCase) → IsPhaseCase of_restart_view Wants containers one
    → IsRawPhaseBy of_restart_view Wants containers (phase_of one)
