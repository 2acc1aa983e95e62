use Rattle.container_causes.proofs.CauseLemmas.{killed_failures, one_list_of_kill_failures, kill_by_failures}
use Rattle.container_causes.proofs.laws.kill_failures.Goals as goal

pub returns-clause-some : goal.returns-clause-some
returns-clause-some c = killed_failures

pub returns-clause-one : goal.returns-clause-one
returns-clause-one c = one_list_of_kill_failures

pub returns-clause-follows : goal.returns-clause-follows
returns-clause-follows c = kill_by_failures
