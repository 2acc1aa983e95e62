use Rattle.replay_program.proofs.Failing.{unwritten_by_usage}
use Rattle.replay_program.proofs.do_asked.Goals as goal

pub returns-in_err-job-clause-writes : goal.returns-in_err-job-clause-writes
returns-in_err-job-clause-writes g c = unwritten_by_usage _ c.in_err-job.field-0.0 _ c.from_residual.ensures.1
