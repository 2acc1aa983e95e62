use Rattle.std.proofs.Common.{◌∙◌, sym}
use Rattle.round_steps.proofs.Numbers.{tens_no_digit, ones_no_digit}
use Rattle.round_steps.proofs.spelling.worker_of.Goals as goal

pub returns-in_err-digit_of : goal.returns-in_err-digit_of
returns-in_err-digit_of c =
    rw c.from_residual-in_err-digit_of.ensures
    (tens_no_digit c.args.text.now c.in_ok-tens.tens c.in_ok-tens.ones (sym c.two_bytes.ensures ∙ c.in_ok-tens.was)
    c.in_err-digit_of.ensures)

pub returns-in_err-worker : goal.returns-in_err-worker
returns-in_err-worker c =
    rw c.from_residual-in_err-worker.ensures
    (ones_no_digit c.args.text.now c.in_ok-tens.tens c.in_ok-tens.ones (sym c.two_bytes.ensures ∙ c.in_ok-tens.was)
    c.in_err-worker.ensures)
