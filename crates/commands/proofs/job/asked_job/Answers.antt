use Rattle.std.proofs.Common.{inr, map}
use Rattle.commands.proofs.Asked.{asked, asks_none, refuted_by_any}
use Rattle.commands.proofs.job.asked_job.Goals as goal

pub returns-in-Some-clause-ok : goal.returns-in-Some-clause-ok
returns-in-Some-clause-ok g c =
    asked (map g.S.AsStr.text c.args.words.now) _ c.in_ok-matches.matches c.in-Some.job
    c.in_ok-program.ensures.command.described c.in_ok-matches.ensures.kinds c.in_ok-matches.ensures.matches
    c.in-Some.ensures

pub returns-clause-err : goal.returns-clause-err
returns-clause-err g c = λ other.
    inr (asks_none (map g.S.AsStr.text c.args.words.now) _ c.in_ok-matches.matches
    c.in_ok-program.ensures.command.described c.in_ok-matches.ensures.matches c.in-None.ensures)

pub returns-in_err-no_job-in-None-clause-err : goal.returns-in_err-no_job-in-None-clause-err
returns-in_err-no_job-in-None-clause-err g c =
    refuted_by_any (map g.S.AsStr.text c.args.words.now) _
    (asks_none (map g.S.AsStr.text c.args.words.now) _ c.in_ok-matches.matches
    c.in_ok-program.ensures.command.described c.in_ok-matches.ensures.matches c.in-None.ensures)
