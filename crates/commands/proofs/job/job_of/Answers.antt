use Rattle.std.proofs.Common.{map}
use Rattle.commands.proofs.Asked.{handed_job, handed_fault}
use Rattle.commands.proofs.job.job_of.Goals as goal

pub returns-clause-ok : goal.returns-clause-ok
returns-clause-ok g c =
    handed_job (map g.S.AsStr.text c.args.words.now) _ _ c.job_as.ensures c.asked_job.ensures.ok

pub returns-clause-err : goal.returns-clause-err
returns-clause-err g c =
    handed_fault (map g.S.AsStr.text c.args.words.now) _ _ c.job_as.ensures c.asked_job.ensures.err
