-- The facts of a container, as its view has them.
use Rattle.std.specs.Prelude.{◌≡◌, ℤ, Option, Some, IsSomeAnd, IsTrue, option_and_then}
use Rattle.state_diff.specs.declared.seen.CriState.TheVariants.{Running}
use Rattle.phase.specs.declared.view.ContainerView.{ContainerView}
use Rattle.phase.specs.rule.Facts.{Facts}

-- the exit code of the newest instance, if it has exited
abbrev pub exit_code : ContainerView → Option ℤ
exit_code view = option_and_then (λ seen. seen.code) view.seen

-- the newest instance is running
abbrev pub IsRunning : ContainerView → Type 0
IsRunning view = IsSomeAnd view.seen (λ seen. seen.state ≡ Running)

-- the facts that a view shows
abbrev pub of_view : Facts ContainerView
of_view = record {
  is = λ view role. view.role ≡ role;
  exited = λ view code. exit_code view ≡ Some code;
  set_up = λ view. IsTrue view.set_up;
  was_started = λ view. IsTrue view.was_started;
}
