use Rattle.replay_program.proofs.work.Goals as goal

pub returns-in-Run-clause-ok : goal.returns-in-Run-clause-ok
returns-in-Run-clause-ok g c = rw c.in-Run.is c.run.ensures.ok

pub returns-in-Run-clause-err : goal.returns-in-Run-clause-err
returns-in-Run-clause-err g c = rw c.in-Run.is c.run.ensures.err

pub returns-in-Check-clause-ok : goal.returns-in-Check-clause-ok
returns-in-Check-clause-ok g c = rw c.in-Check.is c.check.ensures.ok

pub returns-in-Check-clause-err : goal.returns-in-Check-clause-err
returns-in-Check-clause-err g c = rw c.in-Check.is c.check.ensures.err

pub returns-in-Play-clause-ok : goal.returns-in-Play-clause-ok
returns-in-Play-clause-ok g c = rw c.in-Play.is c.play.ensures.ok

pub returns-in-Play-clause-err : goal.returns-in-Play-clause-err
returns-in-Play-clause-err g c = rw c.in-Play.is c.play.ensures.err
