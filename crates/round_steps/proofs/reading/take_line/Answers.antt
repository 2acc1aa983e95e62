use Rattle.round_steps.proofs.InOrder.{said_more}
use Rattle.round_steps.proofs.reading.take_line.Goals as goal

pub returns-in-Ok-clause-ok : goal.returns-in-Ok-clause-ok
returns-in-Ok-clause-ok c = λ lines are.
    rw c.in-Ok.ensures.ok
    (said_more lines c.args.steps.now c.as_slice.result.now c.args.number c.args.line.now c.in_ok-step.field-0
    c.in-Some.step c.as_slice.ensures c.in_ok-step.ensures c.in-Some.is are)
