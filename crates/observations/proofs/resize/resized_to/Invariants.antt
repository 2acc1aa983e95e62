use Rattle.std.proofs.Common.{◌≡◌, drop}
use Rattle.observations.specs.rule.Resizes.{resized_to}
use Rattle.observations.proofs.resize.resized_to.Given as goal

abbrev pub invariant-loop-resize : goal.invariant-loop-resize
invariant-loop-resize l = resized_to (drop l.resize-index l.resizes) l.container ≡ resized_to l.resizes l.container
