use Rattle.std.proofs.Common.{◌+◌, ◌<◌, ◌^◌, arith}
use Rattle.std.proofs.lemmas.Result.{err_from_is_err_and}
use Rattle.round_steps.specs.state.Steps.{lines_of}
use Rattle.round_steps.proofs.ReadOn.{nothing_read, line_read, all_read, reached, line_refused, number_fits}
use Rattle.round_steps.proofs.reading.read_lines.Goals as goal

pub overflow_add-number : goal.overflow_add-number
overflow_add-number c =
    let fits : c.loop-steps.number + 1 < 2 ^ 64 =
    number_fits c.args.text.now c.loop-steps.rest.now c.loop-steps.number c.loop-steps.steps c.requires
    c.loop-steps.invariant in
    omega (arith, fits)

pub loop-steps-init : goal.loop-steps-init
loop-steps-init c = rw c.new-steps.ensures (nothing_read c.args.text.now)

pub loop-steps-preserved : goal.loop-steps-preserved
loop-steps-preserved c =
    line_read c.args.text.now c.loop-steps.rest.now c.in-Some.behind.now c.first_line.result.0.now c.loop-steps.number
    c.loop-steps.steps c.take_line.new.steps c.loop-steps.invariant (rw c.in-Some.is at c.first_line.ensures)
    c.in_ok-take_line.ensures.ok

pub returns-in_default-clause-ok : goal.returns-in_default-clause-ok
returns-in_default-clause-ok c =
    all_read c.args.text.now c.loop-steps.rest.now c.first_line.result.0.now c.loop-steps.number c.loop-steps.steps
    c.take_line.new.steps c.loop-steps.invariant (rw c.in_default.is at c.first_line.ensures)
    c.in_ok-take_line.ensures.ok

pub returns-in_err-take_line-clause-err : goal.returns-in_err-take_line-clause-err
returns-in_err-take_line-clause-err c =
    let p = err_from_is_err_and c.from_residual.result c.from_residual.ensures.1 in
    rw (p.1, p.2)
    (line_refused (lines_of c.args.text.now) (c.loop-steps.number + 1) c.first_line.result.0.now c.loop-steps.steps
    c.in_err-take_line.field-0.0
    (reached c.args.text.now c.loop-steps.rest.now c.first_line.result.0.now c.loop-steps.number c.loop-steps.steps
    c.first_line.result.1 c.loop-steps.invariant c.first_line.ensures)
    c.in_err-take_line.ensures.err)
