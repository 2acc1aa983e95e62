use Rattle.std.proofs.Common.{rules}
use Rattle.round_steps.proofs.Numbers.{not_first, not_second}
use Rattle.round_steps.proofs.spelling.workers_of.Goals as goal

pub returns-in_err-first : goal.returns-in_err-first
returns-in_err-first c =
    rw c.from_residual.ensures
    (not_first c.args.text.now c.cut.result.0.now c.cut.result.1 c.cut.ensures.before c.cut.ensures.whole
    c.in_err-first.ensures)

pub returns-in_err-second-2 : goal.returns-in_err-second-2
returns-in_err-second-2 c =
    rw c.from_residual-in_err-second-2.ensures
    (not_second c.args.text.now c.cut.result.0.now c.in_ok-second.field-0.now c.cut.ensures.before
    (search rules) c.in_err-second-2.ensures)
