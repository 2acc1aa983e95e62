use Rattle.std.specs.IoError.{error_kind}
use Rattle.replay_program.proofs.Failing.{text_unopened}
use Rattle.replay_program.proofs.steps_text.Goals as goal

pub returns-in_err-open-clause-err : goal.returns-in_err-open-clause-err
returns-in_err-open-clause-err g c =
    text_unopened _ _ (error_kind c.in_err-open.field-0.0) c.in_err-open.ensures.err c.from_residual.ensures.1
