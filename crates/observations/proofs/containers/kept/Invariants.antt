use Rattle.std.proofs.Common.{◌≡◌, ◌++◌, map, drop}
use Rattle.observations.specs.state.PackedContainer.{shown_as}
use Rattle.observations.proofs.containers.kept.Given as goal

abbrev pub invariant-loop-one : goal.invariant-loop-one
invariant-loop-one l = map shown_as l.kept.items ++ drop l.one-index l.containers ≡ l.containers
