use Rattle.std.specs.IoError.{error_kind}
use Rattle.replay_program.proofs.Failing.{unwritten_by_kind, file_unopened}
use Rattle.replay_program.proofs.play_steps.Goals as goal

pub returns-in_err-open-clause-err : goal.returns-in_err-open-clause-err
returns-in_err-open-clause-err g c =
    file_unopened _ _ _ _ _ (error_kind c.in_err-open.field-0.0) c.in_err-open.ensures.err c.from_residual.ensures.1

pub returns-in_err-open-clause-writes : goal.returns-in_err-open-clause-writes
returns-in_err-open-clause-writes g c =
    unwritten_by_kind _ (error_kind c.in_err-open.field-0.0) _ c.from_residual.ensures.1
