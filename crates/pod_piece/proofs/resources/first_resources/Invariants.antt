use Rattle.std.proofs.Common.{◌≡◌, ◌++◌, drop}
use Rattle.pod_piece.specs.state.Resources.{first_resources}
use Rattle.pod_piece.proofs.resources.first_resources.Given as goal

abbrev pub invariant-loop-container : goal.invariant-loop-container
invariant-loop-container l = l.all.items ++ first_resources (drop l.container-index l.containers)
    ≡ first_resources l.containers
