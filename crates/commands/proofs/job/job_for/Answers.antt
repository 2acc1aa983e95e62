use Rattle.std.proofs.Common.{codes}
use Rattle.clap.specs.Words.{found_of, rows_of}
use Rattle.commands.proofs.Found.{has_text, no_trace, no_steps, none_to_run, none_to_play}
use Rattle.commands.proofs.job.job_for.Goals as goal

pub returns-in_err-trace : goal.returns-in_err-trace
returns-in_err-trace c =
    rw c.from_residual.ensures (no_trace c.args.name.now (found_of c.args.given.now) c.in_err-trace.ensures)

pub returns-in_err-workers-in-run : goal.returns-in_err-workers-in-run
returns-in_err-workers-in-run c =
    rw c.from_residual-in_err-workers-in-run.ensures
    (none_to_run c.args.name.now (rows_of (found_of c.args.given.now)) c.in_err-workers-in-run.ensures c.in-run.is)

pub returns-in_err-steps-in-play : goal.returns-in_err-steps-in-play
returns-in_err-steps-in-play c =
    rw c.from_residual-in_err-steps-in-play.ensures
    (no_steps c.args.name.now (found_of c.args.given.now) c.in_err-steps-in-play.ensures c.in-play.is)

pub returns-in_err-workers-in-play : goal.returns-in_err-workers-in-play
returns-in_err-workers-in-play c =
    rw c.from_residual-in_err-workers-in-play.ensures
    (none_to_play c.args.name.now (rows_of (found_of c.args.given.now)) c.in_err-workers-in-play.ensures c.in-play.is)

pub returns-in_ok-workers-in-run : goal.returns-in_ok-workers-in-run
returns-in_ok-workers-in-run c = (
  c.in-run.is,
  has_text (found_of c.args.given.now) (codes "TRACE") _ c.in_ok-trace.ensures,
  c.in_ok-workers-in-run.ensures,
  c.format_in-format.ensures,
)

pub returns-in-check : goal.returns-in-check
returns-in-check c = (
  c.in-check.is,
  has_text (found_of c.args.given.now) (codes "TRACE") _ c.in_ok-trace.ensures,
  c.format_in-format.ensures,
)

pub returns-in_ok-workers-in-play : goal.returns-in_ok-workers-in-play
returns-in_ok-workers-in-play c = (
  c.in-play.is,
  has_text (found_of c.args.given.now) (codes "TRACE") _ c.in_ok-trace.ensures,
  has_text (found_of c.args.given.now) (codes "STEPS") _ c.in_ok-steps-in-play.ensures,
  c.in_ok-workers-in-play.ensures,
  c.format_in-format.ensures,
)
