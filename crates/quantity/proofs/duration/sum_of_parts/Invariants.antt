use Rattle.std.proofs.Common.{◌≡◌, ◌<◌, length}
use Rattle.quantity.specs.rule.Duration.{sum_onto, pieces_of, end_of_time}
use Rattle.quantity.proofs.duration.sum_of_parts.Given as goal

abbrev pub invariant-loop-rest : goal.invariant-loop-rest
invariant-loop-rest l =
    (sum_onto l.sum (pieces_of l.rest) ≡ sum_onto 0 (pieces_of l.initial.rest)) × (l.sum < end_of_time)

abbrev pub decreases-loop-rest : goal.decreases-loop-rest
decreases-loop-rest l = length l.rest
