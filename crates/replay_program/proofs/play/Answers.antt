use Rattle.replay_program.proofs.Failing.{unwritten_by_text, play_textless}
use Rattle.replay_program.proofs.play.Goals as goal

pub returns-in_err-text-clause-err : goal.returns-in_err-text-clause-err
returns-in_err-text-clause-err g c =
    play_textless _ _ _ _ _ c.in_err-text.field-0.0 c.in_err-text.ensures.err c.from_residual.ensures.1

pub returns-in_err-text-clause-writes : goal.returns-in_err-text-clause-writes
returns-in_err-text-clause-writes g c =
    unwritten_by_text _ _ c.in_err-text.field-0.0 _ c.in_err-text.ensures.err c.from_residual.ensures.1
