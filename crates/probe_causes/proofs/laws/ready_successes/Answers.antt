use Rattle.probe_causes.proofs.Readiness.{one_ready, some_ready, ready_follows}
use Rattle.probe_causes.proofs.laws.ready_successes.Goals as goal

pub returns-clause-one : goal.returns-clause-one
returns-clause-one c = one_ready

pub returns-clause-some : goal.returns-clause-some
returns-clause-some c = some_ready

pub returns-clause-follows : goal.returns-clause-follows
returns-clause-follows c = ready_follows
