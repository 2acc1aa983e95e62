use Rattle.std.proofs.Common.{length}
use Rattle.round_steps.specs.state.Steps.{lines_of}
use Rattle.round_steps.proofs.ReadOn.{HasRead}
use Rattle.round_steps.proofs.reading.read_lines.Given as goal

abbrev pub invariant-loop-steps : goal.invariant-loop-steps
invariant-loop-steps l = HasRead l.fn.text l.rest l.number l.steps

abbrev pub decreases-loop-steps : goal.decreases-loop-steps
decreases-loop-steps l = length (lines_of l.rest)
