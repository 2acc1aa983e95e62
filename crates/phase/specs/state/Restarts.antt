-- The facts of a container and of its restarts, as a view has them.
use Rattle.std.specs.Prelude.{ℤ, IsTrue}
use Rattle.phase.specs.declared.restart_view.RestartView.{RestartView}
use Rattle.phase.specs.rule.Facts.{Facts}
use Rattle.phase.specs.state.Facts.{of_view}

abbrev pub of_restart_view : Facts RestartView
of_restart_view = record {
  is = λ container role. of_view.is container.view role;
  exited = λ container code. of_view.exited container.view code;
  set_up = λ container. of_view.set_up container.view;
  was_started = λ container. of_view.was_started container.view;
}

-- the container is restarted after its exit
abbrev pub Wants : RestartView → ℤ → Type 0
Wants container code = IsTrue container.wants_restart
