use Rattle.std.proofs.Common.{◌≡◌, length}
use Rattle.manifest.specs.rule.Containers.{has_twice}
use Rattle.manifest_reader.proofs.reading.has_twice.Given as goal

abbrev pub invariant-loop-rest : goal.invariant-loop-rest
invariant-loop-rest l = has_twice l.rest ≡ has_twice l.fn.containers

abbrev pub decreases-loop-rest : goal.decreases-loop-rest
decreases-loop-rest l = length l.rest
