-- The states of a container (Container Runtime Interface, `ContainerState`), and their order.
use Rattle.std.specs.Prelude.{ℕ, Bool, true, false}
use Rattle.state_diff.specs.declared.seen.CriState.{CriState}
use Rattle.state_diff.specs.declared.seen.CriState.TheVariants.{Created, Running, Exited, Unknown}

-- whether the state is exited
abbrev pub is_exited : CriState → Bool
is_exited Created = false
is_exited Running = false
is_exited Exited = true
is_exited Unknown = false

-- whether the state is known
abbrev pub is_known : CriState → Bool
is_known Created = true
is_known Running = true
is_known Exited = true
is_known Unknown = false

-- the order created, running, exited; unknown comes after all, since it is always acceptable
abbrev pub rank : CriState → ℕ
rank Created = 0
rank Running = 1
rank Exited = 2
rank Unknown = 3
